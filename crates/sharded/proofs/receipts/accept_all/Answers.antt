use Rattle.std.proofs.Common.{[], append-nil, ap, ◌∙◌}
use Rattle.shared.specs.Passes.{Shows, ReceiptShows}
use Rattle.shard.specs.Seats.{SeatShows}
use Rattle.sharded.specs.Seats.{IsSeatAccepted}
use Rattle.sharded.proofs.Taken.{taken_first, popped_stores, popped_taken}
use Rattle.sharded.proofs.receipts.accept_all.Goals as goal

pub loop-receipt-init : goal.loop-receipt-init
loop-receipt-init c = taken_first (λ (s : SeatShows). s.shows.store) IsSeatAccepted c.args.seats.now.items c.args.receipts.items

pub loop-receipt-preserved : goal.loop-receipt-preserved
loop-receipt-preserved c =
    let accepted = c.accept.ensures in
    popped_taken (λ (s : SeatShows). s.shows.store) IsSeatAccepted (λ (r : ReceiptShows). r.store) c.args.seats.now.items c.args.receipts.items c.loop-receipt.seats.items c.loop-receipt.receipts.items c.pop.new.self.items c.args.shards.now c.len-shard.result c.in-Some.receipt c.index_mut.result.now c.index-shards-shard.result (record {
      stores = c.requires.stores;
      others = ([], append-nil _ ∙ c.requires.receipts);
      from = c.loop-receipt.invariant;
      is = c.in-Some.ensures.items;
      count = c.len-shard.ensures ∙ c.pop.new.self.ok.0;
      own_is = c.index_mut.ensures.value;
      store_is = c.index-shards-shard.is;
    })
    c.accept.new.self
    (record { accepted = record { kept = accepted.unchanged; one = accepted.one; seen = accepted.seen; acts = accepted.acts; later = accepted.later; lone = accepted.lone }; agrees = accepted.agrees; same = accepted.same })
    (ap (λ (x : Shows). x.store) accepted.unchanged)

pub accept-requires : goal.accept-requires
accept-requires c = record {
  shard = popped_stores (λ (s : SeatShows). s.shows.store) IsSeatAccepted (λ (r : ReceiptShows). r.store) c.args.seats.now.items c.args.receipts.items c.loop-receipt.seats.items c.loop-receipt.receipts.items c.pop.new.self.items c.args.shards.now c.len-shard.result c.in-Some.receipt c.index_mut.result.now c.index-shards-shard.result (record {
    stores = c.requires.stores;
    others = ([], append-nil _ ∙ c.requires.receipts);
    from = c.loop-receipt.invariant;
    is = c.in-Some.ensures.items;
    count = c.len-shard.ensures ∙ c.pop.new.self.ok.0;
    own_is = c.index_mut.ensures.value;
    store_is = c.index-shards-shard.is;
  });
}
