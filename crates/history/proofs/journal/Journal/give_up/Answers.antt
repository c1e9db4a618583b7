use Rattle.std.proofs.Common.{ℕ, drop, ap, ◌∙◌}
use Rattle.history.specs.Parts.{changes_of}
use Rattle.history.specs.Stretch.{Stretch}
use Rattle.history.proofs.Changing.{idle_behind}
use Rattle.history.proofs.journal.Journal.give_up.Goals as goal

pub invariant_of-self : goal.invariant_of-self
invariant_of-self c =
    let left : ℕ = c.saturating_sub-self-inside.result in
    ap (λ (s : Stretch). changes_of (drop left s.entries)) c.discard.ensures
    ∙ idle_behind c.args.n c.self.inside.changing left c.self.inside.window.entries c.saturating_sub-self-inside.ensures c.self.invariant
