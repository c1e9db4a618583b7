use Rattle.std.proofs.Common.{refl}
use Rattle.lrc_code.proofs.Sets.{with_bit}
use Rattle.lrc_files.proofs.survey.with_bit.Goals as goal

pub returns-then-is_gone-clause-gone : goal.returns-then-is_gone-clause-gone
returns-then-is_gone-clause-gone c = λ gone i. with_bit c.args.bits c.args.bits c.args.f refl c.requires i
