use Rattle.std.proofs.Common.{◌≡◌, ◌/◌, ◌%◌, ℕ, List, Some, sym, ap, ap₂, ◌∙◌, subst, arith}
use Rattle.std.specs.Prelude.{slice_range}
use Rattle.std.specs.Option.{option_map}
use Rattle.sealed.specs.Layout.{stripe_of, fragment_of}
use Rattle.sealed.specs.Stripes.{fragment_at}
use Rattle.sealed.specs.Runs.{IsDataFrom}
use Rattle.sealed.proofs.Running.{rest_bytes}
use Rattle.sealed.proofs.value.Sealed.rest_of_fragment.Goals as goal

pub returns-in-Some-clause-bytes : goal.returns-in-Some-clause-bytes
returns-in-Some-clause-bytes c =
    let s = c.args.self.now in
    let start : ℕ = c.args.start in
    let x : List ℕ = c.in-Some.bytes.now in
    let wide : c.from-width.result ≡ s.width = c.from-width.ensures ∙ c.get.ensures.value in
    let found : fragment_at s.stripes (stripe_of s.code s.width start) (fragment_of s.code s.width start) ≡ Some x =
    sym (ap₂ (λ (n m : ℕ). fragment_at s.stripes (start / n) (start % n / m)) c.bytes_per_stripe-size.ensures.value wide)
    ∙ sym c.fragment.ensures ∙ ap (option_map (λ r. r.now)) c.in-Some.is in
    let whole = s.shaped.sized (stripe_of s.code s.width start) (fragment_of s.code s.width start) x found in
    subst (λ v. IsDataFrom s.code s.width s.stripes start (slice_range x (start % v) c.min.result)) (sym wide)
    (rest_bytes s.code s.width s.shaped.wide s.stripes start x found whole.1 c.min.result (omega (arith, c.min.ensures, wide)))
