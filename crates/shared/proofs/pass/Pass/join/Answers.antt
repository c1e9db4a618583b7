use Rattle.std.proofs.Common.{◌≡◌, ◌++◌, subst}
use mathlib.Core.List.{IsPrefix}
use Rattle.gate.specs.Places.{SeatState, AreApart}
use Rattle.requests.specs.declared.boxed_book.BoxedBook.{BoxedBook}
use Rattle.shared.specs.Passes.{Shows, shows, acts_of, did_of, seen_of, made_of}
use Rattle.shared.proofs.Passes.{whole, joined, joined_acts, joined_seen, joined_made, joined_did, joined_apart}
use Rattle.shared.proofs.pass.Pass.join.Goals.{After-join}
use Rattle.shared.proofs.pass.Pass.join.Goals as goal

pub invariant_of-self : goal.invariant_of-self
invariant_of-self c =
    let e = c.join.ensures in
    joined c.self.inside.seat c.other.inside.seat c.join.new.self c.self.invariant c.other.invariant e.seen.0 e.seen.1 e.own e.one e.unchanged.1

-- the joined seat has what two passes show
record HasBoth (v o : Shows) (now : SeatState BoxedBook) : Type 0 where
  pub seen : IsPrefix v.seen (seen_of now.list) × IsPrefix o.seen (seen_of now.list)
  pub acts : IsPrefix v.acts (acts_of now.list) × IsPrefix o.acts (acts_of now.list)
  pub made : made_of now.list now.own ≡ v.made ++ o.made
  pub did : did_of now.list now.own ≡ v.did ++ o.did
  pub apart : AreApart v.made o.made

both : (c : After-join) → HasBoth c.args.self.now c.args.other c.join.new.self
both c =
    let e = c.join.ensures in
    let own = c.self.inside.seat in
    let other = c.other.inside.seat in
    let now = c.join.new.self in
    let shown : HasBoth (shows own c.self.inside.who) (shows other c.other.inside.who) now = record {
      seen = (joined_seen own now c.self.invariant e.seen.0, joined_seen other now c.other.invariant e.seen.1);
      acts = (joined_acts own now c.self.invariant e.seen.0, joined_acts other now c.other.invariant e.seen.1);
      made = joined_made own other now c.self.invariant c.other.invariant e.seen.0 e.seen.1 e.own;
      did = joined_did own other now c.self.invariant c.other.invariant e.seen.0 e.seen.1 e.own;
      apart = joined_apart own other now c.self.invariant c.other.invariant e.seen.0 e.seen.1 e.own e.apart;
    } in
    subst (λ v. HasBoth v c.args.other now) c.self.view_is (subst (λ o. HasBoth (shows own c.self.inside.who) o now) c.other.view_is shown)

pub returns-clause-seen : goal.returns-clause-seen
returns-clause-seen c = (both (goal.at.returns-clause-seen c).After-join).seen

pub returns-clause-made : goal.returns-clause-made
returns-clause-made c = (both (goal.at.returns-clause-made c).After-join).made

pub returns-clause-apart : goal.returns-clause-apart
returns-clause-apart c = (both (goal.at.returns-clause-apart c).After-join).apart

pub returns-clause-acts : goal.returns-clause-acts
returns-clause-acts c = (both (goal.at.returns-clause-acts c).After-join).acts

pub returns-clause-did : goal.returns-clause-did
returns-clause-did c = (both (goal.at.returns-clause-did c).After-join).did

pub returns-clause-whole : goal.returns-clause-whole
returns-clause-whole c = λ all. whole c.join.new.self c.self.inside.who (c.join.ensures.lone all)
