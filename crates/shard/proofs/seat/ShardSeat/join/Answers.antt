use Rattle.std.proofs.Common.{◌≡◌, ◌⊎◌, ◌++◌, subst, ap, ◌∙◌}
use mathlib.Core.List.{IsPrefix}
use Rattle.gate.specs.Places.{SeatState, AreApart}
use Rattle.book.specs.Serial.{Act}
use Rattle.ledger.specs.declared.held.Held.{Held}
use Rattle.ledger_map.specs.declared.acts.ShardBook.{ShardBook}
use Rattle.shared.specs.Passes.{Shows, shows, acts_of, did_of, seen_of, made_of}
use Rattle.shared.proofs.Passes.{agreed, whole, joined_acts, joined_seen, joined_made, joined_did, joined_apart}
use Rattle.shard.specs.Seats.{books_in, plain}
use Rattle.shard.proofs.Visits.{plain_prefix, plain_all}
use Rattle.shard.proofs.Joining.{joined_seat, one_of, one_acts, kept_same}
use Rattle.shard.proofs.seat.ShardSeat.join.Goals.{After-join}
use Rattle.shard.proofs.seat.ShardSeat.join.Goals as goal

pub invariant_of-self : goal.invariant_of-self
invariant_of-self c =
    let e = c.join.ensures in
    joined_seat c.self.inside.seat c.other.inside.seat c.join.new.self c.self.invariant c.other.invariant e.seen.0 e.seen.1 e.own e.one e.unchanged.1

pub returns-clause-same : goal.returns-clause-same
returns-clause-same c =
    let e = c.join.ensures in
    let same = kept_same c.self.inside.seat.list c.join.new.self.list c.self.invariant.kept (one_of c.self.inside.seat c.other.inside.seat c.join.new.self c.self.invariant c.other.invariant e.one) e.seen.0 in
    (same.0 ∙ ap (λ t. t.ledger) c.self.view_is, same.1 ∙ ap (λ t. t.shard) c.self.view_is)

-- the joined seat has what two seats show
record HasBoth (v o : Shows) (now : SeatState (Held ShardBook Act)) : Type 0 where
  pub seen : IsPrefix v.seen (seen_of (books_in now.list)) × IsPrefix o.seen (seen_of (books_in now.list))
  pub acts : IsPrefix v.acts (acts_of (books_in now.list)) × IsPrefix o.acts (acts_of (books_in now.list))
  pub one : (acts_of (books_in now.list) ≡ v.acts) ⊎ (acts_of (books_in now.list) ≡ o.acts)
  pub made : made_of (books_in now.list) now.own ≡ v.made ++ o.made
  pub did : did_of (books_in now.list) now.own ≡ v.did ++ o.did
  pub apart : AreApart v.made o.made

both : (c : After-join) → HasBoth c.args.self.now.shows c.args.other.shows c.join.new.self
both c =
    let e = c.join.ensures in
    let own = plain c.self.inside.seat in
    let other = plain c.other.inside.seat in
    let now = plain c.join.new.self in
    let mine = c.self.invariant.pass in
    let theirs = c.other.invariant.pass in
    let first = plain_prefix c.self.inside.seat.list c.join.new.self.list e.seen.0 in
    let second = plain_prefix c.other.inside.seat.list c.join.new.self.list e.seen.1 in
    subst (λ t. HasBoth t.shows c.args.other.shows c.join.new.self) c.self.view_is (subst (λ t. HasBoth (shows own c.self.inside.who) t.shows c.join.new.self) c.other.view_is record {
      seen = (joined_seen own now mine first, joined_seen other now theirs second);
      acts = (joined_acts own now mine first, joined_acts other now theirs second);
      one = one_acts c.self.inside.seat c.other.inside.seat c.join.new.self e.one;
      made = joined_made own other now mine theirs first second e.own;
      did = joined_did own other now mine theirs first second e.own;
      apart = joined_apart own other now mine theirs first second e.own e.apart;
    })

pub returns-clause-seen : goal.returns-clause-seen
returns-clause-seen c = (both (goal.at.returns-clause-seen c).After-join).seen

pub returns-clause-made : goal.returns-clause-made
returns-clause-made c = (both (goal.at.returns-clause-made c).After-join).made

pub returns-clause-apart : goal.returns-clause-apart
returns-clause-apart c = (both (goal.at.returns-clause-apart c).After-join).apart

pub returns-clause-acts : goal.returns-clause-acts
returns-clause-acts c = (both (goal.at.returns-clause-acts c).After-join).acts

pub returns-clause-one_acts : goal.returns-clause-one_acts
returns-clause-one_acts c = (both (goal.at.returns-clause-one_acts c).After-join).one

pub returns-clause-did : goal.returns-clause-did
returns-clause-did c = (both (goal.at.returns-clause-did c).After-join).did

pub returns-clause-whole : goal.returns-clause-whole
returns-clause-whole c = λ all. whole (plain c.join.new.self) c.self.inside.who (plain_all c.join.new.self.list c.join.new.self.own (c.join.ensures.lone all))

pub returns-clause-agrees : goal.returns-clause-agrees
returns-clause-agrees c =
    let e = c.join.ensures in
    agreed (plain c.join.new.self) c.self.inside.who (joined_seat c.self.inside.seat c.other.inside.seat c.join.new.self c.self.invariant c.other.invariant e.seen.0 e.seen.1 e.own e.one e.unchanged.1).pass
