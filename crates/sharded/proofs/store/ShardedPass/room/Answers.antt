use Rattle.std.proofs.Common.{length, ◌∙◌, ap, subst}
use Rattle.one_map.specs.OneMap.{IsLegalOneMap}
use Rattle.ledger_map.specs.Legal.{calls_of}
use Rattle.sharded.specs.Listings.{AreBeginnings}
use Rattle.sharded.specs.Passes.{HaveLegalHistories, HaveWidth}
use Rattle.sharded.specs.Seats.{shows_of}
use Rattle.sharded.proofs.Interleavings.{has_one_map}
use Rattle.sharded.proofs.Joins.{pass_listed, pass_beginnings}
use Rattle.sharded.proofs.store.ShardedPass.room.Goals as goal

pub returns-clause-one_map : goal.returns-clause-one_map
returns-clause-one_map c w some wide = has_one_map w c.args.self.now.shards some wide (subst HaveLegalHistories (ap shows_of c.deref.ensures.value ∙ ap (λ v. v.shards) c.self.view_is) c.find_least_room.ensures.legal)

pub returns-clause-list : goal.returns-clause-list
returns-clause-list c w some wide =
    (subst (λ v. HaveWidth w v.shards → IsLegalOneMap (length v.shards) w (calls_of v.list)) c.self.view_is (pass_listed c.self.inside.seats.items c.self.inside.follower c.self.invariant w)) wide

pub returns-clause-beginnings : goal.returns-clause-beginnings
returns-clause-beginnings c = subst AreBeginnings c.self.view_is (pass_beginnings c.self.inside.seats.items c.self.inside.follower c.self.invariant)
