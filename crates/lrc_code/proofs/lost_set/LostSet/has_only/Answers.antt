use Rattle.std.proofs.Common.{arith}
use Rattle.lrc_code.proofs.Only.{only_told}
use Rattle.lrc_code.proofs.lost_set.LostSet.has_only.Goals as goal

pub returns : goal.returns
returns c = only_told c.self.inside.bits c.args.self c.args.group c.args.f c.self.view_is (omega arith) c.requires
