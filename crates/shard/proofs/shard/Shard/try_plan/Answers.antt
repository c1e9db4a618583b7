use Rattle.history.specs.History.{state_of}
use Rattle.book.specs.Plan.{plan_of}
use Rattle.shared.proofs.Looks.{whole_plan_of}
use Rattle.shard.proofs.shard.Shard.try_plan.Goals as goal

pub returns-clause-ok : goal.returns-clause-ok
returns-clause-ok c = whole_plan_of c.try_plan_part.result (plan_of (state_of c.try_plan_part.new.seat.shows.seen)) c.try_plan_part.ensures.ok
