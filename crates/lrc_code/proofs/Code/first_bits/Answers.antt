use Rattle.lrc_code.proofs.Only.{wide_first, small_first}
use Rattle.lrc_code.proofs.Code.first_bits.Goals as goal

pub returns-in-Wide : goal.returns-in-Wide
returns-in-Wide c = rw c.in-Wide.is wide_first

pub returns-in-Small : goal.returns-in-Small
returns-in-Small c = rw c.in-Small.is small_first
