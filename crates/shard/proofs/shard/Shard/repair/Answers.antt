use Rattle.std.proofs.Common.{ap, subst}
use Rattle.history.specs.Step.{repair}
use Rattle.requests.specs.Requests.{operation_of}
use Rattle.shared.specs.Deeds.{deed_of, act_if}
use Rattle.shared.proofs.Mends.{can_install, looks_then_installed}
use Rattle.shard.specs.Listed.{IsListed, IsUpToDate, listing_of}
use Rattle.shard.proofs.Visits.{listed_later, kept_later}
use Rattle.shard.proofs.shard.Shard.repair.Goals as goal

pub make-requires-clause-can : goal.make-requires-clause-can
make-requires-clause-can g c =
    let found = c.in-Rebuildable.ensures.found in
    can_install c.inspect-found.new.seat.shows c.args.name c.in-Rebuildable.sealed.value c.args.stripe c.args.fragment c.in-Ok.install found.known found.rebuildable c.in-Ok.ensures.ok

pub returns-clause-called : goal.returns-clause-called
returns-clause-called g c =
    looks_then_installed c.args.seat.now.shows c.inspect-found.new.seat.shows c.make.new.seat.shows c.args.name c.in-Rebuildable.sealed.value c.args.stripe c.args.fragment c.in-Ok.install c.make.result c.in-Rebuildable.ensures.found c.in-Ok.ensures.ok c.make.ensures.called

pub returns-clause-listed : goal.returns-clause-listed
returns-clause-listed g c =
    listed_later c.args.seat.now.shard _ c.args.seat.now.shows.acts c.inspect-found.new.seat.shows.acts c.make.new.seat.shows.acts (listing_of c.args.follower.now) (listing_of c.inspect-found.new.follower) (listing_of c.make.new.follower) c.in-Rebuildable.ensures.listed
    (subst (λ k. IsListed k (act_if c.args.seat.now.shows.who (deed_of (repair c.args.name c.args.stripe c.args.fragment) c.make.result)) c.inspect-found.new.seat.shows.acts c.make.new.seat.shows.acts (listing_of c.inspect-found.new.follower) (listing_of c.make.new.follower)) c.in-Rebuildable.ensures.same.1
    (subst (λ o. IsListed c.inspect-found.new.seat.shard (act_if c.args.seat.now.shows.who (deed_of o c.make.result)) c.inspect-found.new.seat.shows.acts c.make.new.seat.shows.acts (listing_of c.inspect-found.new.follower) (listing_of c.make.new.follower)) (ap operation_of c.in-Ok.ensures.ok.is)
    (subst (λ who. IsListed c.inspect-found.new.seat.shard (act_if who (deed_of (operation_of c.in-Ok.install) c.make.result)) c.inspect-found.new.seat.shows.acts c.make.new.seat.shows.acts (listing_of c.inspect-found.new.follower) (listing_of c.make.new.follower)) c.in-Rebuildable.ensures.found.takes.stays.1
    c.make.ensures.listed)))

pub returns-clause-follower : goal.returns-clause-follower
returns-clause-follower g c =
    kept_later c.args.ledger.now.setup c.args.seat.now.shard c.args.seat.now.shows.acts c.inspect-found.new.seat.shows.acts c.make.new.seat.shows.acts c.args.follower.now c.inspect-found.new.follower c.make.new.follower c.in-Rebuildable.ensures.follower
    (subst (λ k. IsUpToDate c.args.ledger.now.setup k c.inspect-found.new.seat.shows.acts c.make.new.seat.shows.acts c.inspect-found.new.follower c.make.new.follower) c.in-Rebuildable.ensures.same.1 c.make.ensures.follower)
