use Rattle.std.proofs.Common.{◌∙◌, ap, sym}
use Rattle.rounds.specs.Halts.{halt_after}
use Rattle.play.proofs.Halting.{all_go_on}
use Rattle.play.proofs.round.run_works.Goals as goal

pub returns-in-None-clause-going : goal.returns-in-None-clause-going
returns-in-None-clause-going g c =
    let lacks = g.E.Outcome.Ending.lacks in
    let paused = g.E.Outcome.Ending.paused in
    all_go_on lacks paused c.in_ok-passes.outcomes.items (ap (halt_after lacks paused) (sym c.as_slice.ensures.value) ∙ sym c.halted.ensures ∙ c.in-None.is)
