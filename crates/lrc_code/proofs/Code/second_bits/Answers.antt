use Rattle.lrc_code.proofs.Only.{wide_second, small_second}
use Rattle.lrc_code.proofs.Code.second_bits.Goals as goal

pub returns-in-Wide : goal.returns-in-Wide
returns-in-Wide c = rw c.in-Wide.is wide_second

pub returns-in-Small : goal.returns-in-Small
returns-in-Small c = rw c.in-Small.is small_second
