use Rattle.std.proofs.Common.{ℕ, ◌+◌, ◌<◌, ◌++◌, ◌∷◌, [], List, take, length, ap, ◌∙◌, subst, arith}
use Rattle.std.proofs.lemmas.List.{length-drop, length-take-le}
use Rattle.history.specs.declared.note.Entry.{Entry}
use Rattle.history.specs.Stretch.{Stretch}
use Rattle.history.proofs.Stretching.{AreWritten, entries_after, stretch_after}
use Rattle.history.proofs.window.Window.push.Goals as goal

written : (c : goal.After-self-1) → AreWritten c.self.inside.slots.items c.copy_before.new.slots.items c.write.new.slots.items c.self.inside.limit c.self.inside.end c.args.entry
written c =
    subst (λ (l : ℕ). AreWritten c.self.inside.slots.items c.copy_before.new.slots.items c.write.new.slots.items l c.self.inside.end c.args.entry) c.get-limit.ensures.value
    (record { copied = c.copy_before.ensures.copied; kept = c.copy_before.ensures.unchanged; items = c.write.ensures.items })

-- there is room for one more
room : (c : goal.After-self-1) → c.self.inside.end < c.self.inside.start + c.self.inside.limit
room c =
    let w = c.self.inside in
    let slots : List Entry = w.slots.items in
    let limit = ap (λ (s : Stretch). s.limit) c.self.view_is in
    let count = ap (λ (s : Stretch). length s.entries) c.self.view_is in
    omega (arith, c.requires, limit, count, length-drop w.start (take w.end slots), length-take-le w.end slots c.self.invariant.0.reached, c.self.invariant.0.ordered)

pub invariant_of-self : goal.invariant_of-self
invariant_of-self c = (
  stretch_after c.self.inside.slots.items c.copy_before.new.slots.items c.write.new.slots.items c.self.inside.limit c.self.inside.start c.self.inside.end c.args.entry c.self.invariant.0 (room c) (written c),
  omega (arith, c.self.invariant.1, c.copy_before.ensures.capacity, c.write.ensures.capacity),
  c.self.invariant.2,
)

pub returns : goal.returns
returns c =
    let w = c.self.inside in
    let now = entries_after w.slots.items c.copy_before.new.slots.items c.write.new.slots.items w.limit w.start w.end c.args.entry c.self.invariant.0 (room c) (written c) in
    let whole : Stretch → Stretch = λ s. record { limit = s.limit; entries = s.entries ++ c.args.entry ∷ [] } in
    ap (λ (es : List Entry). let s : Stretch = record { limit = w.limit; entries = es } in s) now ∙ ap whole c.self.view_is
