use Rattle.std.proofs.Common.{◌≡◌, length, Some, slice_get, option_map, get_or, refl, ap, sym, subst, ◌∙◌, arith, rules}
use Rattle.std.proofs.lemmas.Option.{slice_get-map, slice_get_read, slice_get_within}
use Rattle.shared.specs.Passes.{Which}
use Rattle.shard.specs.Seats.{SeatShows, IsSeatOf}
use Rattle.sharded.specs.Seats.{shows_of}
use Rattle.sharded.proofs.Closings.{closed_none, closed_more, left_all, left_at, left_less, left_listed, shows_last, all_rooms}
use Rattle.sharded.proofs.Seats.{shows_there}
use Rattle.sharded.proofs.Steps.{same_some}
use Rattle.sharded.proofs.Taken.{length_map}
use Rattle.sharded.proofs.close.take_all.Goals as goal

pub loop-seat-init : goal.loop-seat-init
loop-seat-init c =
    let long : length c.args.seats.items ≡ length c.args.shards.now = sym (length_map (λ (s : SeatShows). s.shows.store) c.args.seats.items) ∙ ap length c.requires.stores in
    let none : length c.args.books.now.items ≡ 0 = ap length c.requires.none in record {
      closed = closed_none (shows_of c.args.seats.items) c.args.books.now.items c.requires.none;
      seats = left_all c.args.seats.items c.args.follower.now;
      room = omega (arith, c.args.seats.ok.0, c.args.books.now.ok.0, long, none, c.requires.room);
    }

pub take_book-requires-clause-lone : goal.take_book-requires-clause-lone
take_book-requires-clause-lone c =
    let there = left_at c.args.seats.items c.loop-seat.seats.items c.pop.new.self.items c.args.follower.now c.loop-seat.follower c.in-Some.seat c.in-Some.ensures.items c.loop-seat.invariant.seats in
    c.requires.lone (length c.pop.new.self.items) c.in-Some.seat.shows (shows_there c.args.seats.items (length c.pop.new.self.items) c.in-Some.seat there)

pub take_book-requires-clause-at : goal.take_book-requires-clause-at
take_book-requires-clause-at c =
    let there = left_at c.args.seats.items c.loop-seat.seats.items c.pop.new.self.items c.args.follower.now c.loop-seat.follower c.in-Some.seat c.in-Some.ensures.items c.loop-seat.invariant.seats in
    subst (λ l. IsSeatOf l c.in-Some.seat) c.requires.ledger (c.requires.seats.each (length c.pop.new.self.items) c.in-Some.seat there).of

pub take_book-requires-clause-ledger : goal.take_book-requires-clause-ledger
take_book-requires-clause-ledger c = (
  ap (λ f. f.ledger) c.loop-seat.invariant.seats.same ∙ c.requires.ledger,
  ap (λ f. f.room) c.loop-seat.invariant.seats.same ∙ all_rooms c.args.seats.items c.args.follower.now c.requires.seats c.requires.lone,
)

pub loop-seat-preserved : goal.loop-seat-preserved
loop-seat-preserved c =
    let seat = c.in-Some.seat in
    let left = c.pop.new.self.items in
    let there = left_at c.args.seats.items c.loop-seat.seats.items left c.args.follower.now c.loop-seat.follower seat c.in-Some.ensures.items c.loop-seat.invariant.seats in
    let own : slice_get c.args.shards.now (length left) ≡ Some seat.shows.store =
    ap (λ l. slice_get l (length left)) (sym c.requires.stores) ∙ slice_get-map (λ (s : SeatShows). s.shows.store) c.args.seats.items (length left) ∙ ap (option_map (λ (s : SeatShows). s.shows.store)) there in
    let at : c.len.result ≡ length left = c.len.ensures ∙ c.pop.new.self.ok.0 in
    let read : slice_get c.args.shards.now (length left) ≡ Some c.index-shards-len.result =
    slice_get_read c.args.shards.now (length c.args.shards.now) (length left) c.index-shards-len.result refl (slice_get_within c.args.shards.now (length left) seat.shows.store own) (c.index-shards-len.is ∙ ap (λ k. get_or c.args.shards.now k c.index-shards-len.result) at) in
    let here : seat.shows.store ≡ c.index-shards-len.result = same_some seat.shows.store c.index-shards-len.result (slice_get c.args.shards.now (length left)) own read in
    let book = c.take_book.ensures in record {
      closed = closed_more (shows_of c.args.seats.items) (shows_of c.loop-seat.seats.items) (shows_of left) c.loop-seat.books.items c.push_reserved.new.self.items seat.shows c.take_book.result
          (shows_last c.loop-seat.seats.items left seat c.in-Some.ensures.items) c.push_reserved.ensures.items
          (record {
            holds = book.holds;
            whole = record { calls = book.made; all = book.did };
            calls = book.count;
            acts = book.did_count;
            trimmed = book.trimmed;
            entries = book.entries;
            agrees = book.agrees;
            width = book.unchanged.0 ∙ ap (λ (s : Which). s.width) (sym here);
            limit = book.unchanged.1 ∙ ap (λ (s : Which). s.limit) (sym here);
          })
          c.loop-seat.invariant.closed;
      seats = left_less c.args.seats.items c.loop-seat.seats.items left c.args.follower.now c.loop-seat.follower c.take_book.new.follower seat c.in-Some.ensures.items c.loop-seat.invariant.seats book.follower book.all
          (c.requires.seats.each (length left) seat there).shard book.acts;
      room = omega (arith, c.in-Some.ensures.len, c.push_reserved.ensures.len, c.push_reserved.ensures.capacity, c.loop-seat.invariant.room);
    }

pub returns-clause-listed : goal.returns-clause-listed
returns-clause-listed c =
    let empty : length c.loop-seat.seats.items ≡ 0 = search rules in
    left_listed c.args.seats.items c.loop-seat.seats.items c.args.follower.now c.loop-seat.follower empty c.loop-seat.invariant.seats
