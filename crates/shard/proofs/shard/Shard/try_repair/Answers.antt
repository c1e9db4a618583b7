use Rattle.std.proofs.Common.{inr, ap, subst}
use Rattle.history.specs.Step.{repair}
use Rattle.requests.specs.Requests.{operation_of}
use Rattle.shared.specs.Deeds.{deed_of, act_if}
use Rattle.shared.proofs.Mends.{can_install, looks_then_installed}
use Rattle.shard.specs.Listed.{IsListed, IsUpToDate, listing_of}
use Rattle.shard.proofs.Visits.{listed_later, kept_later}
use Rattle.shard.proofs.shard.Shard.try_repair.Goals as goal

pub try_make-requires-clause-can : goal.try_make-requires-clause-can
try_make-requires-clause-can c =
    let found = c.in-Rebuildable.ensures.found in
    can_install c.try_inspect-found.new.seat.shows c.args.name c.in-Rebuildable.sealed.value c.args.stripe c.args.fragment c.in-Ok.install found.known found.rebuildable c.in-Ok.ensures.ok

pub returns-clause-called : goal.returns-clause-called
returns-clause-called c =
    looks_then_installed c.args.seat.now.shows c.try_inspect-found.new.seat.shows c.try_make.new.seat.shows c.args.name c.in-Rebuildable.sealed.value c.args.stripe c.args.fragment c.in-Ok.install c.try_make.result c.in-Rebuildable.ensures.found c.in-Ok.ensures.ok c.try_make.ensures.called

pub returns-clause-listed : goal.returns-clause-listed
returns-clause-listed c =
    listed_later c.args.seat.now.shard _ c.args.seat.now.shows.acts c.try_inspect-found.new.seat.shows.acts c.try_make.new.seat.shows.acts (listing_of c.args.follower.now) (listing_of c.try_inspect-found.new.follower) (listing_of c.try_make.new.follower) c.in-Rebuildable.ensures.listed
    (subst (λ k. IsListed k (act_if c.args.seat.now.shows.who (deed_of (repair c.args.name c.args.stripe c.args.fragment) c.try_make.result)) c.try_inspect-found.new.seat.shows.acts c.try_make.new.seat.shows.acts (listing_of c.try_inspect-found.new.follower) (listing_of c.try_make.new.follower)) c.in-Rebuildable.ensures.same.1
    (subst (λ o. IsListed c.try_inspect-found.new.seat.shard (act_if c.args.seat.now.shows.who (deed_of o c.try_make.result)) c.try_inspect-found.new.seat.shows.acts c.try_make.new.seat.shows.acts (listing_of c.try_inspect-found.new.follower) (listing_of c.try_make.new.follower)) (ap operation_of c.in-Ok.ensures.ok.is)
    (subst (λ who. IsListed c.try_inspect-found.new.seat.shard (act_if who (deed_of (operation_of c.in-Ok.install) c.try_make.result)) c.try_inspect-found.new.seat.shows.acts c.try_make.new.seat.shows.acts (listing_of c.try_inspect-found.new.follower) (listing_of c.try_make.new.follower)) c.in-Rebuildable.ensures.found.takes.stays.1
    c.try_make.ensures.listed)))

pub returns-clause-follower : goal.returns-clause-follower
returns-clause-follower c =
    kept_later c.args.ledger.now.setup c.args.seat.now.shard c.args.seat.now.shows.acts c.try_inspect-found.new.seat.shows.acts c.try_make.new.seat.shows.acts c.args.follower.now c.try_inspect-found.new.follower c.try_make.new.follower c.in-Rebuildable.ensures.follower
    (subst (λ k. IsUpToDate c.args.ledger.now.setup k c.try_inspect-found.new.seat.shows.acts c.try_make.new.seat.shows.acts c.try_inspect-found.new.follower c.try_make.new.follower) c.in-Rebuildable.ensures.same.1 c.try_make.ensures.follower)

pub returns-clause-busy : goal.returns-clause-busy
returns-clause-busy c = λ busy.
    inr (c.in-Rebuildable.sealed.value, c.try_inspect-found.new.seat.shows, c.in-Rebuildable.ensures.found, c.try_make.ensures.busy busy)
