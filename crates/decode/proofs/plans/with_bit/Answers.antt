use Rattle.std.proofs.Common.{refl}
use Rattle.lrc_code.proofs.Sets.{with_bit}
use Rattle.decode.proofs.plans.with_bit.Goals as goal

pub returns : goal.returns
returns c = with_bit _ _ _ refl c.requires
