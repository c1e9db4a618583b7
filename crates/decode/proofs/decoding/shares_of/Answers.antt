use Rattle.lrc_code.specs.Code.{is_lost}
use Rattle.decode.proofs.Equations.{shares_alone}
use Rattle.decode.proofs.decoding.shares_of.Goals as goal

pub returns-clause-shares : goal.returns-clause-shares
returns-clause-shares c = shares_alone c.args.code (is_lost c.args.lost) c.args.f c.in_ok-factors.factors c.fit.ensures c.requires.f_below c.requires.f_lost c.in_ok-factors.ensures.weighs
