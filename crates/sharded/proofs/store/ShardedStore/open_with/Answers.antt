use Rattle.std.proofs.Common.{◌≡◌, ap, ◌∙◌, arith}
use Rattle.history.specs.Log.{call_limit}
use Rattle.sharded.specs.Passes.{stores_of}
use Rattle.sharded.proofs.Passes.{fresh_stores}
use Rattle.sharded.proofs.Openings.{opened_pass, opened_shows}
use Rattle.sharded.proofs.store.ShardedStore.open_with.Goals as goal

pub invariant_of-result : goal.invariant_of-result
invariant_of-result c =
    let setup = c.in-Ok.ensures.setup in
    let count : c.in-Ok.ledger.setup.count ≡ c.args.count = ap (λ s. s.count) setup in
    opened_pass c.in-Some.width (call_limit c.args.limit) c.in_ok-shards.shards.items c.in_ok-shards.seats.items c.in-Ok.ledger c.in-Ok.follower c.in_ok-shards.ensures.seats c.in-Ok.ensures.follower c.in_ok-shards.ensures.count
    (omega (arith, count, c.requires.0)) (ap (λ s. s.about) setup ∙ c.from-about.ensures ∙ c.get.ensures.value) c.in_ok-shards.ensures.stores

pub returns-clause-passes : goal.returns-clause-passes
returns-clause-passes c = opened_shows c.in-Ok.ledger.table 0 c.in_ok-shards.shards.items c.in_ok-shards.seats.items c.in_ok-shards.ensures.seats

pub returns-clause-same : goal.returns-clause-same
returns-clause-same c =
    (λ i. record { shards = (ap stores_of (opened_shows c.in-Ok.ledger.table 0 c.in_ok-shards.shards.items c.in_ok-shards.seats.items c.in_ok-shards.ensures.seats) ∙ fresh_stores c.in_ok-shards.shards.items) i; ledger = (c.in-Ok.ensures.follower i).ledger })
