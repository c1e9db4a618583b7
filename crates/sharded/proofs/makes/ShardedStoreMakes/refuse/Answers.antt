use Rattle.std.proofs.Common.{length, ◌<◌, subst}
use Rattle.sharded.specs.Passes.{AreConsistent}
use Rattle.sharded.proofs.Joins.{pass_some, pass_consistent}
use Rattle.sharded.proofs.Requests.{refused_call, refused_listed}
use Rattle.sharded.proofs.makes.ShardedStoreMakes.refuse.Goals as goal

pub returns-clause-called : goal.returns-clause-called
returns-clause-called c = λ n code b is long.
    refused_call c.args.pass.now c.args.self.now n code b c.args.fault c.requires
    (subst (λ v. AreConsistent v.shards) c.pass.view_is (pass_consistent c.pass.inside.seats.items c.pass.inside.follower c.pass.invariant))
    (subst (λ v. 0 < length v.shards) c.pass.view_is (pass_some c.pass.inside.seats.items c.pass.inside.follower c.pass.invariant))
    is long

pub returns-clause-listed : goal.returns-clause-listed
returns-clause-listed c = λ n code b is. refused_listed c.args.pass.now n code b c.args.fault is
