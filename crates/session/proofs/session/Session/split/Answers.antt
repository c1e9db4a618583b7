use Rattle.std.proofs.Common.{ap, ◌∙◌}
use Rattle.shared.specs.Passes.{Shows}
use Rattle.session.specs.FreshSession.{split_from}
use Rattle.session.proofs.session.Session.split.Goals.{in-Ok-split, in-Err}
use Rattle.session.proofs.session.Session.split.Goals as goal

pub returns-clause-given : goal.returns-clause-given
returns-clause-given c = elim c.match-split.branch [
  | in-Ok-split w ↦ rw w.result-is (record { is = w.in-Ok-split.ensures.given ∙ ap (λ (v : Shows). split_from v c.args.who) c.self.view_is })
  | in-Err w ↦ rw w.result-is tt
]
