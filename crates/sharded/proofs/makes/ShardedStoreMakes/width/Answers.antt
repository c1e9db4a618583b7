use Rattle.std.proofs.Common.{ap, sym, ◌∙◌}
use Rattle.sharded.specs.Steps.{width_for}
use Rattle.sharded.proofs.Requests.{wide_for}
use Rattle.sharded.proofs.makes.ShardedStoreMakes.width.Goals as goal

pub returns : goal.returns
returns c = λ n. ap (λ s. width_for s.shards n) (sym c.self.view_is) ∙ wide_for c.self.inside.width c.self.inside.shards.items n c.self.invariant.3 c.self.invariant.0
