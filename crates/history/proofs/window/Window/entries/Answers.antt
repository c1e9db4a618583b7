use Rattle.std.proofs.Common.{◌≡◌, ℕ, ◌+◌, ◌-◌, List, take, drop, sym, ap, ◌∙◌, arith}
use Rattle.std.proofs.lemmas.List.{drop-take}
use Rattle.history.specs.declared.note.Entry.{Entry}
use Rattle.history.specs.Stretch.{Stretch}
use Rattle.history.proofs.window.Window.entries.Goals as goal

pub returns-clause-value : goal.returns-clause-value
returns-clause-value c =
    let slots : List Entry = c.self.inside.slots.items in
    let n : ℕ = c.self.inside.start in
    let m : ℕ = c.self.inside.end - n in
    let all : n + m ≡ c.self.inside.end = omega (arith, c.self.invariant.0.ordered) in
    ap (λ (xs : List Entry). take m (drop n xs)) c.deref.ensures.value
    ∙ sym (drop-take n m slots)
    ∙ ap (λ k. drop n (take k slots)) all
    ∙ ap (λ (s : Stretch). s.entries) c.self.view_is
