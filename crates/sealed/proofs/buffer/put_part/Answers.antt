use Rattle.std.proofs.Common.{length, ap}
use Rattle.sealed.proofs.Writing.{other_part}
use Rattle.sealed.proofs.buffer.put_part.Goals as goal

pub returns-clause-others : goal.returns-clause-others
returns-clause-others c m ne = other_part c.args.list.now c.copy_from_slice.new.self (length c.args.bytes.now) c.args.n (ap length c.copy_from_slice.ensures.after) c.requires m ne
