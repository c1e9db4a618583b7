use Rattle.std.proofs.Common.{get_or, refl, ap, ◌∙◌, arith}
use Rattle.sharded.specs.Seats.{kept_seat, AreSeatsInPart}
use Rattle.sharded.proofs.Passes.{mapped_at, on_err}
use Rattle.sharded.proofs.Joins.{SplitAt, split_next, split_stopped, kept_by, given_by, room_of_one}
use Rattle.sharded.proofs.pass.split_all.Goals.{After-split}
use Rattle.sharded.proofs.pass.split_all.Goals as goal

own_split : (c : After-split) → SplitAt c.args.who c.loop-shard.shard c.args.seats.now.items c.loop-shard.seats.items c.reserve.new.self.items c.index_mut-own.result.now
own_split c = record {
  seats = c.loop-shard.invariant.0;
  given_is = c.reserve.ensures.items ∙ c.loop-shard.invariant.1;
  room = c.loop-shard.invariant.2;
  below = omega (arith, c.loop-shard-test.true, c.len-shard-end.ensures, c.args.seats.now.ok.0);
  own_is = c.index_mut-own.ensures.value;
  some = omega (arith, c.room.ensures.value, c.if-room-le1.false);
}

pub loop-shard-preserved : goal.loop-shard-preserved
loop-shard-preserved c =
    let own = c.index_mut-own.result.now in
    let next = split_next c.args.who c.loop-shard.shard c.args.seats.now.items c.loop-shard.seats.items c.reserve.new.self.items own c.split.new.self c.in_ok-seat.seat (own_split (goal.at.loop-shard-preserved c).After-split)
    (kept_by own c.split.new.self c.in_ok-seat.ensures.unchanged c.split.ensures.same) (given_by c.args.who own c.in_ok-seat.seat c.in_ok-seat.ensures.given c.in_ok-seat.ensures.at) in
    (next.0, c.push_reserved.ensures.items ∙ next.1, next.2)

pub returns-in_err-seat-clause-err : goal.returns-in_err-seat-clause-err
returns-in_err-seat-clause-err c =
    on_err c.from_residual.result (AreSeatsInPart c.args.who c.args.seats.now.items _ c.reserve.new.self.items)
    (split_stopped c.args.who c.loop-shard.shard c.args.seats.now.items c.loop-shard.seats.items c.reserve.new.self.items c.reserve.new.self.items c.index_mut-own.result.now c.split.new.self (own_split (goal.at.returns-in_err-seat-clause-err c).After-split) c.in_err-seat.ensures.err refl)

pub returns-then-room-le1-clause-no_pass : goal.returns-then-room-le1-clause-no_pass
returns-then-room-le1-clause-no_pass c = λ _.
    let own = c.index_mut-own.result.now in
    let n = c.loop-shard.shard in
    room_of_one c.args.seats.now.items n own
    (mapped_at kept_seat c.args.seats.now.items n own (omega (arith, c.loop-shard-test.true, c.len-shard-end.ensures, c.args.seats.now.ok.0)) (c.index_mut-own.ensures.value ∙ ap (λ l. get_or l n own) c.loop-shard.invariant.0))
    (omega (arith, c.room.ensures.value, c.room.ensures.range.0, c.if-room-le1.true))
