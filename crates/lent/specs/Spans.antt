-- The spans of a range.
use Rattle.std.specs.Prelude.{ℕ, List, map, Option, slice_range}
use Rattle.std.specs.Option.{option_map}
use Rattle.sealed.specs.declared.value.Sealed.{Sealed}
use Rattle.sealed.specs.Stripes.{fragment_at}
use Rattle.lent.specs.declared.part.Part.{Part}
use Rattle.lent.specs.declared.span.Span.{Span}

-- a span as a contract sees it: its part with its bytes
abbrev pub seen : Span → Part × Option (List ℕ)
seen span =
    (record { stripe = span.stripe; fragment = span.fragment; from = span.from; to = span.to }, option_map (λ r. r.now) span.bytes)

-- a part with the fragment's bytes there, or with None if the fragment is absent
abbrev pub span_of : Sealed → Part → Part × Option (List ℕ)
span_of s part = (part, option_map (λ x. slice_range x part.from part.to) (fragment_at s.stripes part.stripe part.fragment))

abbrev pub spans_of : Sealed → List Part → List (Part × Option (List ℕ))
spans_of s parts = map (span_of s) parts
