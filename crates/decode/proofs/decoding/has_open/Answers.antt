use Rattle.std.proofs.Common.{sym, arith}
use Rattle.std.proofs.lemmas.Bool.{true≢false}
use Rattle.decode.proofs.Chosen.{none_open}
use Rattle.decode.proofs.decoding.has_open.Goals as goal

pub returns-then-excess_in-le2 : goal.returns-then-excess_in-le2
returns-then-excess_in-le2 c =
    (λ t. absurd (true≢false (sym t)), λ h. absurd (none_open c.args.left.now.code c.args.left.now.fragments c.args.lost c.args.chosen.now c.requires.absent (c.excess_in.ensures.unique.0 (omega arith)) c.requires.inside h))
