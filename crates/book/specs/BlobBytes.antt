-- The bytes of a sealed blob, read out of its data fragments.
use Rattle.std.specs.Prelude.{ℕ, List, [], map, Option, None, Some, slice_index}
use Rattle.std.specs.List.{range_with_len}
use Rattle.sealed.specs.declared.value.Sealed.{Sealed}
use Rattle.sealed.specs.Layout.{stripe_of, fragment_of, place_of}
use Rattle.sealed.specs.Stripes.{fragment_at}

-- of a fragment that is absent, no byte
abbrev pub bytes_left : Option (List ℕ) → List ℕ
bytes_left None = []
bytes_left (Some x) = x

-- byte i of the blob
abbrev pub blob_byte : Sealed → ℕ → ℕ
blob_byte s i = slice_index (bytes_left (fragment_at s.stripes (stripe_of s.code s.width i) (fragment_of s.code s.width i))) (place_of s.width i)

abbrev pub blob_bytes : Sealed → List ℕ
blob_bytes s = map (blob_byte s) (range_with_len 0 s.len)
