use Rattle.std.proofs.Common.{arith, refl, sym, ◌<◌}
use Rattle.script.specs.Script.{last_round}
use Rattle.script.proofs.Rounds.{none-later, round-at}
use Rattle.script.proofs.records.breaks_mend.Goals as goal

pub returns-then-last-row : goal.returns-then-last-row
returns-then-last-row c =
    let round = round-at c.args.earlier.now _ _ (sym c.in-Some.ensures.value) in
    let later : last_round c.args.earlier.now < c.args.row.now.round = omega (arith, round, c.requires.rises) in
    rw (none-later c.args.earlier.now c.args.row.now.round c.requires.tidy later) refl
