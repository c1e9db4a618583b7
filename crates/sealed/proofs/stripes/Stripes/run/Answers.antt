use Rattle.std.proofs.Common.{◌≡◌, ◌+◌, ◌-◌, ◌*◌, ◌<◌, ◌/◌, ◌%◌, ◌≤◌, ◌⊎◌, ℕ, None, false, length, sym, ap, ◌∙◌, subst, arith, inl, inr}
use Rattle.std.proofs.lemmas.Nat.{div_below}
use Rattle.sealed.specs.Layout.{stripe_size, fragment_of}
use Rattle.sealed.specs.Runs.{byte_in}
use Rattle.sealed.specs.Stripes.{Stripes}
use Rattle.sealed.specs.Changes.{lost_at, patch_at}
use Rattle.sealed.proofs.WithChanges.{changed_count, changed_byte}
use Rattle.sealed.proofs.Counting.{div_mono}
use Rattle.sealed.proofs.Running.{cut_ends, last_below}
use Rattle.sealed.proofs.stripes.Stripes.run.Goals as goal

pub first_in-behind-requires : goal.first_in-behind-requires
first_in-behind-requires c =
    let size : ℕ = c.bytes_per_stripe-size.result in
    let some : 1 ≤ size = c.bytes_per_stripe-size.ensures.range.0 in
    let rises = div_mono size c.args.start (c.args.end - 1) some (omega (arith, c.requires.some)) in
    omega arith

pub run-requires-clause-inside : goal.run-requires-clause-inside
run-requires-clause-inside c =
    let s = c.self.inside in
    let long : length c.args.self.now ≡ length s.packed = sym (ap length c.self.view_is) ∙ changed_count (lost_at s.changes) (patch_at s.changes) s.packed in
    let inside : c.args.end ≤ stripe_size c.args.code c.args.width * length s.packed = subst (λ n. c.args.end ≤ stripe_size c.args.code c.args.width * n) long c.requires.inside in
    omega (arith, c.min.ensures)

pub returns-clause-bytes : goal.returns-clause-bytes
returns-clause-bytes c i low =
    let s = c.self.inside in
    let size : ℕ = c.bytes_per_stripe-size.result in
    let same = c.bytes_per_stripe-size.ensures.value in
    let behind : ℕ = c.first_in-behind.result in
    let k : ℕ = c.args.start + i in
    let f : ℕ = fragment_of c.args.code c.args.width k in
    let some : 1 ≤ size = c.bytes_per_stripe-size.ensures.range.0 in
    let turned : behind * size ≡ size * behind = omega arith in
    let from : c.args.start / size ≤ k / size = div_mono size c.args.start k some (omega arith) in
    let upto : k / size < behind = div_below k size behind some (omega (arith, c.run.ensures.few, c.min.ensures)) in
    let lost : lost_at s.changes (k / size) f ≡ false = c.first_in-behind.ensures.lost (k / size) f from upto in
    let patch : patch_at s.changes (k / size) f ≡ None = c.first_in-behind.ensures.patches (k / size) f from upto in
    let long : length c.args.self.now ≡ length s.packed = sym (ap length c.self.view_is) ∙ changed_count (lost_at s.changes) (patch_at s.changes) s.packed in
    let below = last_below size (stripe_size c.args.code c.args.width) c.args.end (length c.args.self.now) (length s.packed) some (omega (arith, c.requires.some)) same long c.requires.inside in
    let inside : k / size < length s.packed = omega (arith, upto, c.first_in-behind.ensures.range.1) in
    sym (ap (λ (t : Stripes). byte_in c.args.code c.args.width t k) c.self.view_is)
    ∙ changed_byte (lost_at s.changes) (patch_at s.changes) s.packed c.args.code c.args.width k (subst (λ n. 1 ≤ n) same some)
    (subst (λ n. k / n < length s.packed) same inside) (subst (λ n. lost_at s.changes (k / n) f ≡ false) same lost) (subst (λ n. patch_at s.changes (k / n) f ≡ None) same patch)
    ∙ c.run.ensures.bytes i low

pub returns-clause-ends : goal.returns-clause-ends
returns-clause-ends c =
    let size : ℕ = c.bytes_per_stripe-size.result in
    let n : ℕ = length c.run.result.now in
    elim c.run.ensures.ends [
      | inl none ↦ inl none
      | inr some ↦ inr (elim some [
        | inl upto ↦ subst (λ m. (c.args.start + n ≡ c.args.end) ⊎ ((c.args.start + n) % m ≡ 0)) c.bytes_per_stripe-size.ensures.value
            (cut_ends size c.args.start n c.args.end c.first_in-behind.result c.bytes_per_stripe-size.ensures.range.0 (upto ∙ c.min.ensures))
        | inr whole ↦ inr whole
      ])
    ]
