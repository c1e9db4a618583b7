use Rattle.std.proofs.Common.{◌≡◌, ◌+◌, ◌-◌, ◌*◌, ◌/◌, ◌<◌, ◌≤◌, ◌^◌, ◌⊎◌, ℕ, List, [], length, max, sym, ap, ap₂, ◌∙◌, subst, rules, arith, inl, inr}
use Rattle.std.specs.Prelude.{slice_range}
use Rattle.std.specs.Int.{div_ceil}
use Rattle.std.proofs.lemmas.Grind.{common_steps}
use Rattle.sealed.specs.declared.value.Sealed.{Sealed}
use Rattle.sealed.specs.Layout.{place_of}
use Rattle.sealed.specs.Sealed.{StandsFor}
use Rattle.sealed.specs.Runs.{is_absent_at}
use Rattle.sealed.proofs.Counting.{rounded_up}
use Rattle.lent.specs.declared.grant.Grant.{Grant}
use Rattle.lent.specs.Runs.{begin_at}
use Rattle.sealed.proofs.Readable.{Meets}
use Rattle.lent.proofs.Running.{from_below, from_begins, behind_above, behind_inside, behind_begins, absent_from}
use Rattle.lent.proofs.runs.run_at.Goals as goal

-- a run that has a byte ends with the range or with a fragment
ends_there : (run : List ℕ) (w from rest end : ℕ) → 0 < length run → from + rest ≡ end → (run ≡ []) ⊎ ((length run ≡ rest) ⊎ (place_of w (from + length run) ≡ 0))
    → (from + length run ≡ end) ⊎ (place_of w (from + length run) ≡ 0)
ends_there run w from rest end some all ends =
    elim ends [
      | inl none ↦ absurd (let no : length run ≡ 0 = ap length none in omega arith)
      | inr there ↦ elim there [
        | inl whole ↦ inl (omega arith)
        | inr here ↦ inr here
      ]
    ]

pub overflow_add-from : goal.overflow_add-from
overflow_add-from c =
    let g : Grant = c.args.grant.now in
    let s : Sealed = g.sealed.value in
    let met : Meets s.width g.start g.len c.args.k = record { first = c.requires.first; last = c.requires.last } in
    let wide : c.from-width.result ≡ s.width = c.from-width.ensures ∙ c.get.ensures.value ∙ ap (λ (t : Sealed). t.width) c.deref-sealed.ensures in
    let at : c.max-from.result ≡ max g.start (c.args.k * s.width) = c.max-from.ensures ∙ ap (λ v. max g.start (c.args.k * v)) wide in
    let below = from_below s.code s.width g.start g.len c.args.k s.shaped.wide met in
    let in_range : c.deref-sealed.result.now.len < 2 ^ 64 = search rules in
    omega (arith, below, at, c.run-run.ensures.few, g.inside, in_range, ap (λ (t : Sealed). t.len) c.deref-sealed.ensures)

-- what all three clauses need: where the run begins, that it has a byte, where it ends, and the
-- number of the data fragment behind it
module _ (c : goal.After-div_ceil) where
  abbrev g : Grant
  g = c.args.grant.now

  abbrev s : Sealed
  s = g.sealed.value

  abbrev from : ℕ
  from = max g.start (c.args.k * s.width)

  abbrev size : ℕ
  size = length c.run-run.result.now

  met : Meets s.width g.start g.len c.args.k
  met = record { first = c.requires.first; last = c.requires.last }

  wide : c.from-width.result ≡ s.width
  wide = c.from-width.ensures ∙ c.get.ensures.value ∙ ap (λ (t : Sealed). t.width) c.deref-sealed.ensures

  at : c.max-from.result ≡ from
  at = c.max-from.ensures ∙ ap (λ v. max g.start (c.args.k * v)) wide

  any : 0 < size
  any = grind (arith, common_steps, c.is_empty.ensures, c.if-is_empty.false)

  inside : from + size ≤ g.start + g.len
  inside = omega (arith, from_below s.code s.width g.start g.len c.args.k s.shaped.wide met, at, c.run-run.ensures.few)

  behind_is : c.div_ceil.result ≡ (from + size + s.width - 1) / s.width
  behind_is = c.div_ceil.ensures ∙ ap₂ (λ n d. div_ceil (n + size) d) at wide ∙ rounded_up (from + size) s.width s.shaped.wide

  ends : (from + size ≡ g.start + g.len) ⊎ (place_of s.width (from + size) ≡ 0)
  ends =
      let end = g.start + g.len in
      let run : List ℕ = c.run-run.result.now in
      ends_there run s.width from (end - from) end any (omega (arith, inside))
      (subst (λ m. (run ≡ []) ⊎ ((size ≡ end - m) ⊎ (place_of s.width (m + size) ≡ 0))) at
      (subst (λ (t : Sealed). (run ≡ []) ⊎ ((size ≡ end - c.max-from.result) ⊎ (place_of t.width (c.max-from.result + size) ≡ 0))) c.deref-sealed.ensures c.run-run.ensures.ends))

pub returns-clause-present : goal.returns-clause-present
returns-clause-present c =
    let from_zero : c.max-from.result + 0 ≡ from c = (let e : c.max-from.result + 0 ≡ c.max-from.result = omega arith in e) ∙ at c in
    sym (absent_from (s c) (g c).start (g c).len c.args.k (met c)) ∙ sym (ap₂ is_absent_at c.deref-sealed.ensures from_zero) ∙ c.run-run.ensures.present 0 (any c)

pub returns-clause-more : goal.returns-clause-more
returns-clause-more c =
    omega (arith, behind_is c, behind_above (s c).code (s c).width (g c).start (g c).len c.args.k (s c).shaped.wide (met c) (size c) (any c) (inside c))

pub returns-clause-inside : goal.returns-clause-inside
returns-clause-inside c =
    omega (arith, behind_is c, behind_inside (s c).code (s c).width (g c).start (g c).len c.args.k (s c).shaped.wide (met c) (size c) (any c) (inside c))

pub returns-clause-bytes : goal.returns-clause-bytes
returns-clause-bytes c b lost stands =
    c.run-run.ensures.bytes b lost (subst (λ (t : Sealed). StandsFor t b lost) (sym c.deref-sealed.ensures) stands)
    ∙ ap (λ m. slice_range b m (m + size c)) (at c)
    ∙ ap₂ (slice_range b) (sym (from_begins (s c).code (s c).width (g c).start (g c).len c.args.k (s c).shaped.wide (met c)))
    (sym (ap (begin_at (s c).width (g c).start ((g c).start + (g c).len)) (behind_is c)
    ∙ behind_begins (s c).code (s c).width (g c).start (g c).len c.args.k (s c).shaped.wide (met c) (size c) (any c) (inside c) (ends c)))
