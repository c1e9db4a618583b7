use Rattle.shared.proofs.Looks.{whole_trim}
use Rattle.shard.proofs.shard.Shard.try_trim.Goals as goal

pub returns-clause-takes : goal.returns-clause-takes
returns-clause-takes c = whole_trim c.try_trim_part.result c.args.keep c.args.seat.now.shows c.try_trim_part.new.seat.shows c.try_trim_part.ensures.part c.try_trim_part.ensures.few c.try_trim_part.ensures.whole
