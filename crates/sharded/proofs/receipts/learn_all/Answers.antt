use Rattle.std.proofs.Common.{◌≡◌, ◌<◌, map, take, length, refl, ap, sym, subst, ◌∙◌, arith, add-one, option_map, slice_get, Some, get_or, set}
use Rattle.std.proofs.lemmas.Option.{slice_get-map, slice_get_read}
use Rattle.shared.specs.Passes.{Which, Shows, ReceiptShows}
use Rattle.shard.specs.Seats.{SeatShows}
use Rattle.sharded.specs.Passes.{AreTaken}
use Rattle.sharded.specs.Seats.{IsSeatAccepted, seen_seat}
use Rattle.sharded.proofs.Joins.{receipt_next}
use Rattle.sharded.proofs.Taken.{taken_none, taken_next, taken_length, taken_stores, same_length, read_store}
use Rattle.sharded.proofs.receipts.learn_all.Goals as goal

abbrev store : SeatShows → Which
store s = s.shows.store

kept : (v : SeatShows) (o : ReceiptShows) (w : SeatShows) → IsSeatAccepted v o w → store w ≡ store v
kept v o w a = ap (λ (x : Shows). x.store) a.accepted.kept

pub loop-shard-init : goal.loop-shard-init
loop-shard-init c = record { taken = taken_none store IsSeatAccepted c.args.seats.now.items; same = refl }

pub index_mut-requires-in-loop-shard : goal.index_mut-requires-in-loop-shard
index_mut-requires-in-loop-shard c =
    let long = taken_length store IsSeatAccepted c.args.seats.now.items (take c.loop-shard.shard (map seen_seat c.args.others.now.items)) c.loop-shard.seats.items c.loop-shard.invariant.taken in
    omega (arith, c.loop-shard-test.true, c.len-shard-end.ensures, c.args.seats.now.ok.0, c.loop-shard.seats.ok.0, long)

pub accept-requires : goal.accept-requires
accept-requires c =
    let k = c.loop-shard.shard in
    let here = c.index-shards-shard-in-loop-shard in
    let taken = c.loop-shard.invariant.taken in
    let rs = take k (map seen_seat c.args.others.now.items) in
    let long = taken_length store IsSeatAccepted c.args.seats.now.items rs c.loop-shard.seats.items taken in
    let stores : map store c.loop-shard.seats.items ≡ c.args.shards.now = taken_stores store IsSeatAccepted kept c.args.seats.now.items rs c.loop-shard.seats.items taken ∙ c.requires.stores in
    let others : map store c.loop-shard.others.items ≡ c.args.shards.now = ap (map store) c.loop-shard.invariant.same ∙ c.requires.others in
    let below : k < length c.loop-shard.seats.items = omega (arith, c.loop-shard-test.true, c.len-shard-end.ensures, c.args.seats.now.ok.0, long) in
    let many : length c.loop-shard.others.items ≡ length c.loop-shard.seats.items = same_length store store c.loop-shard.others.items c.loop-shard.seats.items (others ∙ sym stores) in
    record {
      shard = (
        read_store store c.loop-shard.seats.items c.args.shards.now k c.index_mut-in-loop-shard.result.now here.result stores below c.index_mut-in-loop-shard.ensures.value here.is,
        ap (λ (r : ReceiptShows). r.store) c.receipt-receipt.ensures.given
            ∙ read_store store c.loop-shard.others.items c.args.shards.now k c.index_mut.result.now here.result others (omega (arith, below, many)) c.index_mut.ensures.value here.is,
      );
    }

pub loop-shard-preserved : goal.loop-shard-preserved
loop-shard-preserved c =
    let k = c.loop-shard.shard in
    let vs = c.args.seats.now.items in
    let os = c.args.others.now.items in
    let taken = c.loop-shard.invariant.taken in
    let same = c.loop-shard.invariant.same in
    let long = taken_length store IsSeatAccepted vs (take k (map seen_seat os)) c.loop-shard.seats.items taken in
    let many : length os ≡ length vs = same_length store store os vs (c.requires.others ∙ sym c.requires.stores) in
    let below : k < length vs = omega (arith, c.loop-shard-test.true, c.len-shard-end.ensures, c.args.seats.now.ok.0) in
    let next = receipt_next k os c.loop-shard.others.items (map seen_seat (take k os)) c.index_mut.result.now c.receipt-receipt.new.self c.receipt-receipt.result same refl (omega (arith, below, many)) c.index_mut.ensures.value c.receipt-receipt.ensures.same c.receipt-receipt.ensures.given in
    let there : slice_get (map seen_seat os) k ≡ Some c.receipt-receipt.result =
    slice_get-map seen_seat os k
    ∙ ap (option_map seen_seat) (slice_get_read os (length os) k c.index_mut.result.now refl (omega (arith, below, many)) (c.index_mut.ensures.value ∙ ap (λ l. get_or l k c.index_mut.result.now) same))
    ∙ ap Some (sym c.receipt-receipt.ensures.given) in
    let e = c.accept.ensures in record {
      taken = subst (λ n. AreTaken IsSeatAccepted vs (take n (map seen_seat os)) (set c.loop-shard.seats.items k c.accept.new.self)) (sym (add-one k))
          (taken_next store IsSeatAccepted vs (map seen_seat os) c.loop-shard.seats.items k c.receipt-receipt.result c.index_mut-in-loop-shard.result.now c.accept.new.self (omega (arith, below, long)) there c.index_mut-in-loop-shard.ensures.value
          (record { accepted = record { kept = e.unchanged; one = e.one; seen = e.seen; acts = e.acts; later = e.later; lone = e.lone }; agrees = e.agrees; same = e.same }) taken);
      same = next.0;
    }
