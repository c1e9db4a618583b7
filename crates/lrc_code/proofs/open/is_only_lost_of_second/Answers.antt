use Rattle.lrc_code.specs.Code.{is_lost}
use Rattle.lrc_code.proofs.Only.{second_only}
use Rattle.lrc_code.proofs.open.is_only_lost_of_second.Goals as goal

pub returns : goal.returns
returns c = second_only c.args.code (is_lost c.args.lost) (is_lost c.second_bits.result) c.args.f c.requires c.second_bits.ensures c.has_only.result c.has_only.ensures
