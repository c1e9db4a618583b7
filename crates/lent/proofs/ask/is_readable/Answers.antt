use Rattle.std.proofs.Common.{◌≡◌, ℕ, ◌+◌, ◌-◌, ◌*◌, ◌/◌, ◌%◌, ◌<◌, ◌≤◌, sym, ap, ◌∙◌, subst, arith}
use Rattle.std.proofs.lemmas.Nat.{div-mul-add}
use Rattle.lrc_code.specs.Code.{data_count, Open}
use Rattle.sealed.specs.Layout.{stripe_count}
use Rattle.sealed.specs.Sealed.{absent_in}
use Rattle.sealed.proofs.Places.{rest_of}
use Rattle.sealed.proofs.Readable.{stripe_met, has_open, has_none}
use Rattle.lent.proofs.ask.is_readable.Goals as goal

-- some data fragments further on in the same stripe
stands_at : (d k q r f : ℕ) → q ≡ k / d → r ≡ k % d → r ≤ f → f < d → (((k + (f - r)) / d ≡ q) × ((k + (f - r)) % d ≡ f))
stands_at d k q r f quotient rest from below =
    let whole : d * (k / d) + k % d ≡ k = omega arith in
    let scaled : d * q ≡ d * (k / d) = ap (λ n. d * n) quotient in
    let turned : q * d ≡ d * q = omega arith in
    let at : k + (f - r) ≡ q * d + f = omega arith in
    let stripe : (k + (f - r)) / d ≡ q = ap (λ n. n / d) at ∙ div-mul-add q d f below in
    (stripe, rest_of (k + (f - r)) d q f at stripe)

pub has_open-requires-clause-stripe_below : goal.has_open-requires-clause-stripe_below
has_open-requires-clause-stripe_below c =
    let s = c.args.sealed.now in
    subst (λ n. n < stripe_count s.code s.width s.len) (sym c.place_of-stripe.ensures.stripe)
    (stripe_met s.code s.width s.shaped.wide c.args.start c.args.len c.loop-k.k s.len (record { first = c.loop-k.invariant.begun; last = omega (arith, c.requires.last, c.loop-k-test.true) }) c.requires.inside)

pub returns-then-has_open : goal.returns-then-has_open
returns-then-has_open c =
    let s = c.args.sealed.now in
    let code = s.code in
    let found = c.if-has_open.ensures in
    let f : ℕ = found.0 in
    let r : ℕ = c.place_of-stripe.result.1 in
    let u : ℕ = c.loop-k.k + (f - r) in
    let inside : f < data_count code = omega (arith, found.2, c.min-count.ensures, c.from.ensures, c.data_fragments.ensures) in
    let at = stands_at (data_count code) c.loop-k.k c.place_of-stripe.result.0 r f c.place_of-stripe.ensures.stripe c.place_of-stripe.ensures.fragment found.1 inside in
    has_open code s.width s.shaped.wide c.args.start c.args.len (absent_in s) u
    (record { first = omega (arith, c.loop-k.invariant.begun); last = omega (arith, found.1, found.2, c.min-count.ensures, c.requires.last, c.loop-k-test.true) })
    (subst (λ g. Open code (absent_in s (u / data_count code)) g) (sym at.1) (subst (λ j. Open code (absent_in s j) f) (sym at.0) found.3))

pub returns : goal.returns
returns c =
    let s = c.args.sealed.now in
    has_none s.code s.width s.shaped.wide c.args.start c.args.len (absent_in s) (λ k met. c.loop-k.invariant.closed k met.first (omega (arith, met.last, c.requires.last, c.loop-k-test.false)))
