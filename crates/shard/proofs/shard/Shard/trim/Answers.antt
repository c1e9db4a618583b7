use Rattle.shared.proofs.Looks.{whole_trim}
use Rattle.shard.proofs.shard.Shard.trim.Goals as goal

pub returns-clause-takes : goal.returns-clause-takes
returns-clause-takes g c = whole_trim c.trim_part.result c.args.keep c.args.seat.now.shows c.trim_part.new.seat.shows c.trim_part.ensures.part c.trim_part.ensures.few c.trim_part.ensures.whole
