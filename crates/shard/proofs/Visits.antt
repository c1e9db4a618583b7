-- What a visit of a shard leaves of a seat and of a follower.
use Rattle.std.proofs.Common.{◌≡◌, ◌⊎◌, inl, inr, ℕ, ◌+◌, ◌<◌, List, [], ◌∷◌, ◌++◌, length, Some, true, Result, Ok, Err, refl, ap, sym, subst, ◌∙◌, arith}
use Rattle.std.proofs.lemmas.List.{map-append, length-map, append-nil}
use mathlib.Core.List.{IsPrefix}
use Rattle.gate.specs.Places.{SeatState, last_of, IsChain, HasAll, times, once_later}
use Rattle.gate.specs.Visits.{IsVisit}
use Rattle.gate.proofs.Lists.{prefix_self, prefix_trans, chain-snoc, last_of-snoc}
use Rattle.sealed.specs.declared.fault.Fault.{Fault}
use Rattle.sealed.specs.declared.fault.Fault.TheVariants.{NoMemory, TooLong}
use Rattle.history.specs.declared.note.Note.{Note}
use Rattle.history.specs.Step.{Operation}
use Rattle.history.specs.History.{Event, History}
use Rattle.book.specs.Notes.{note_of}
use Rattle.book.specs.declared.answer.Answer.{Answer}
use Rattle.requests.specs.declared.inspection.Inspection.{Inspection}
use Rattle.requests.specs.declared.inspection.Inspection.TheVariants.{Done, Refused, Rebuildable}
use Rattle.book.specs.Serial.{Act, events_in}
use Rattle.requests.specs.declared.boxed_book.BoxedBook.{BoxedBook}
use Rattle.requests.specs.Between.{RecordsActs, acts_for}
use Rattle.requests.proofs.Between.{GoesOn, acts_are, events_for, goes_follows}
use Rattle.shared.specs.Passes.{acts_of}
use Rattle.shared.specs.Deeds.{deed_of, trim_deed, act_if}
use Rattle.shared.proofs.Mends.{events_at_inspection}
use Rattle.shared.proofs.Looks.{given_by}
use Rattle.shared.proofs.Steps.{kept_follows, Enters, Found, found, Stepped, made_by, act_called}
use Rattle.shared.proofs.Visits.{visited as store_visited}
use Rattle.shared.proofs.Requests.{FoundInside, busy_pass}
use Rattle.ledger.specs.declared.view.Setup.{Setup}
use Rattle.ledger.specs.declared.held.Held.{Held}
use Rattle.ledger.specs.Acts.{TableId, LedgerState, KeeperState, FollowerState, AreLegal, acts_at, indices}
use Rattle.ledger.specs.Acts.{as_shard_acts as at_shard}
use Rattle.ledger.specs.Values.{MayFollowHeld, KeepsAll, acts_left, left_beside}
use Rattle.ledger.specs.Visits.{beside, IsListedVisit}
use Rattle.ledger.proofs.Lists.{acts_at-more}
use Rattle.ledger.proofs.Values.{keeps_longer}
use Rattle.ledger_map.specs.declared.acts.ShardBook.{ShardBook}
use Rattle.ledger_map.specs.Legal.{AreCallsAt, AreActsOfShard, event_shard}
use Rattle.ledger_map.specs.Books.{book_of, between_books, IsShard, MayLeave}
use Rattle.ledger_map.proofs.Leaving.{left_legal, one_map}
use Rattle.shard.specs.Seats.{SeatShows, books_in, plain, book_follows, ledger_beside, shard_beside, seat_shows, IsKeptChain, IsSeat, IsSeatOf}
use Rattle.shard.specs.Looked.{inspected}
use Rattle.shard.specs.Listed.{Listing, listing_of, IsListed, IsUpToDate}

-- ---- lists of books beside keepers
abbrev pub Books : Type 0
Books = List (Held ShardBook Act)

pub plain_last : (list : Books) (x : Held ShardBook Act) → last_of list ≡ Some x → last_of (books_in list) ≡ Some x.value.0
plain_last [] x e = absurd (cc)
plain_last (y ∷ []) x e = let same : y ≡ x = cc in ap (λ (h : Held ShardBook Act). Some h.value.0) same
plain_last (y ∷ z ∷ zs) x e = plain_last (z ∷ zs) x e

pub plain_prefix : (xs ys : Books) → IsPrefix xs ys → IsPrefix (books_in xs) (books_in ys)
plain_prefix xs ys p = (books_in p.0, sym (map-append (λ (h : Held ShardBook Act). h.value.0) xs p.0) ∙ ap books_in p.1)

pub plain_chain : (list : Books) → IsChain (MayFollowHeld between_books book_follows) list → IsChain kept_follows (books_in list)
plain_chain [] c = tt
plain_chain (x ∷ []) c = tt
plain_chain (x ∷ y ∷ ys) c = (c.0.0, plain_chain (y ∷ ys) c.1)

pub plain_acts : (list : Books) → acts_left between_books list ≡ acts_of (books_in list)
plain_acts [] = refl
plain_acts (x ∷ []) = refl
plain_acts (x ∷ y ∷ ys) = ap (λ (l : List Act). between_books x.value y.value ++ l) (plain_acts (y ∷ ys))

pub plain_length : (list : Books) → length (books_in list) ≡ length list
plain_length list = length-map list (λ (h : Held ShardBook Act). h.value.0)

pub plain_all : (list : Books) (own : List ℕ) → HasAll list own → HasAll (books_in list) own
plain_all list own has = subst (λ (n : ℕ). ((p : ℕ) → times p own ≡ once_later n p) × (length own + 1 ≡ n)) (sym (plain_length list)) has

-- ---- the keeper beside the last value
pub kept_at : (list : Books) (k : IsKeptChain list) → (ledger_beside (last_of list) ≡ Some k.ledger) × (shard_beside (last_of list) ≡ k.shard)
kept_at list k =
    let x = k.keeps.0 in (
      ap ledger_beside k.keeps.1 ∙ ap (λ (q : KeeperState Act). Some q.ledger) k.keeps.2,
      ap shard_beside k.keeps.1 ∙ ap (λ (q : KeeperState Act). q.shard) k.keeps.2,
    )

-- a longer list has the same keeper
pub kept_longer : (xs ys : Books) (k : IsKeptChain xs) (y : Held ShardBook Act) → IsPrefix xs ys → IsChain (MayFollowHeld between_books book_follows) ys → last_of ys ≡ Some y → KeepsAll between_books k.ledger k.shard ys
kept_longer xs ys k y p c e = keeps_longer between_books book_follows k.ledger k.shard xs ys y k.keeps p c e

-- ---- a seat entered, and found x beside its keeper
pub record EntersHeld (p m : SeatState (Held ShardBook Act)) (x : Held ShardBook Act) : Type 0 where
  pub same : (m.gate ≡ p.gate) × (m.room ≡ p.room) × (m.own ≡ p.own)
  pub seen : IsPrefix p.list m.list × IsChain (MayFollowHeld between_books book_follows) m.list
  pub found : last_of m.list ≡ Some x
  pub lone : p.room ≡ 64 → HasAll m.list m.own

pub enters : (p m : SeatState (Held ShardBook Act)) (x : Held ShardBook Act) → EntersHeld p m x → Enters (plain p) (plain m) x.value.0
enters p m x e = record {
  same = (e.same.0, e.same.1, e.same.2);
  seen = (plain_prefix p.list m.list e.seen.0, plain_chain m.list e.seen.1);
  found = plain_last m.list x e.found;
  lone = λ all. plain_all m.list m.own (e.lone all);
}

-- the seat inside, which has seen this list
abbrev entered : SeatState (Held ShardBook Act) → Books → SeatState (Held ShardBook Act)
entered p list = record { gate = p.gate; list = list; own = p.own; room = p.room; inside = true; expected_length = 0 }

enters_to : (p : SeatState (Held ShardBook Act)) (list : Books) (x : Held ShardBook Act) → IsPrefix p.list list → IsChain (MayFollowHeld between_books book_follows) list → last_of list ≡ Some x → (p.room ≡ 64 → HasAll list p.own) → EntersHeld p (entered p list) x
enters_to p list x seen chain last lone = record { same = (refl, refl, refl); seen = (seen, chain); found = last; lone = lone }

-- what is known once a seat has entered
module _ (ledger : LedgerState) (p m : SeatState (Held ShardBook Act)) (x : Held ShardBook Act) (who : ℕ) (s : SeatShows) (is : seat_shows p who ≡ s) (at : IsSeatOf ledger s) (seat : IsSeat p) (enter : EntersHeld p m x) where
  keeps : KeepsAll between_books seat.kept.ledger seat.kept.shard m.list
  keeps = kept_longer p.list m.list seat.kept x enter.seen.0 enter.seen.1 enter.found

  found_last : keeps.0 ≡ x
  found_last = let both : Some keeps.0 ≡ Some x = sym keeps.1 ∙ enter.found in cc

  keeper_is : x.keeper ≡ record { ledger = seat.kept.ledger; shard = seat.kept.shard; acts = acts_left between_books m.list }
  keeper_is = ap (λ (h : Held ShardBook Act). h.keeper) (sym found_last) ∙ keeps.2

  shard_at : seat.kept.shard ≡ s.shard
  shard_at = sym (kept_at p.list seat.kept).1 ∙ ap (λ (t : SeatShows). t.shard) is

  keeper_shard : x.keeper.shard ≡ s.shard
  keeper_shard = ap (λ (q : KeeperState Act). q.shard) keeper_is ∙ shard_at

  keeper_acts : x.keeper.acts ≡ acts_of (books_in m.list)
  keeper_acts = ap (λ (q : KeeperState Act). q.acts) keeper_is ∙ plain_acts m.list

  plain_found : Found (plain p) (plain m) x.value.0
  plain_found = found (plain p) (plain m) x.value.0 seat.pass (enters p m x enter)

  pub is_shard : IsShard ledger.setup x
  is_shard = record {
    width = plain_found.holds.width ∙ (ap (λ (t : SeatShows). t.shows.store.width) is ∙ at.width);
    holds = subst (RecordsActs (book_of x.value)) (sym keeper_acts) plain_found.holds.holds;
  }

  -- and what may be left
  module _ (y : ShardBook) (g : History) (n : ℕ) (on : GoesOn (book_of x.value) (book_of y) g n) where
    lies : between_books x.value y ≡ acts_for g n
    lies = acts_are (book_of x.value) (book_of y) g (events_in (acts_of (books_in m.list))) n on plain_found.holds.holds.holds

    may_leave : AreCallsAt (event_shard ledger.setup.count) s.shard g → MayLeave ledger.setup x y
    may_leave calls = (
      is_shard,
      goes_follows (book_of x.value) (book_of y) g n on,
      subst (AreCallsAt (event_shard ledger.setup.count) x.keeper.shard) (sym (ap events_in lies ∙ events_for g n on.few))
          (subst (λ (k : ℕ). AreCallsAt (event_shard ledger.setup.count) k g) (sym keeper_shard) calls),
    )

-- ---- what a visit asks for
module _ (ledger : LedgerState) (p : SeatState (Held ShardBook Act)) (who : ℕ) (s : SeatShows) (is : seat_shows p who ≡ s) (at : IsSeatOf ledger s) (seat : IsSeat p) where
  pub keeps_at : (k : ℕ) × KeepsAll between_books ledger.table k p.list
  keeps_at =
      let both : Some seat.kept.ledger ≡ Some ledger.table = sym (kept_at p.list seat.kept).0 ∙ ap (λ (t : SeatShows). t.ledger) is ∙ at.ledger_is in
      let same : seat.kept.ledger ≡ ledger.table = cc in
      (seat.kept.shard, subst (λ (t : TableId). KeepsAll between_books t seat.kept.shard p.list) same seat.kept.keeps)

  -- the shard's acts stay legal
  pub legal_visit : (list : Books) (x : Held ShardBook Act) (y : ShardBook) (g : History) (n : ℕ) → IsPrefix p.list list → IsChain (MayFollowHeld between_books book_follows) list → last_of list ≡ Some x → (p.room ≡ 64 → HasAll list p.own)
      → GoesOn (book_of x.value) (book_of y) g n → AreCallsAt (event_shard ledger.setup.count) s.shard g → AreActsOfShard ledger.setup x.keeper.shard x.keeper.acts
      → AreActsOfShard ledger.setup x.keeper.shard (x.keeper.acts ++ between_books x.value y)
  legal_visit list x y g n seen chain last lone on calls before =
      left_legal ledger.setup x y (may_leave ledger p (entered p list) x who s is at seat (enters_to p list x seen chain last lone) y g n on calls) before

-- What a visit leaves of a seat and of a follower
pub record Visited (setup : Setup) (p q : SeatState (Held ShardBook Act)) (who : ℕ) (s : SeatShows) (x : BoxedBook) (g : History) (n : ℕ) (v w : FollowerState Act) : Type 0 where
  pub step : Stepped (plain p) (plain q) x g n
  pub seat : IsSeat q
  pub same : ((seat_shows q who).ledger ≡ s.ledger) × ((seat_shows q who).shard ≡ s.shard)
  pub listed : IsListed s.shard (acts_for g n) s.shows.acts (acts_of (books_in q.list)) (listing_of v) (listing_of w)
  pub follower : IsUpToDate setup s.shard s.shows.acts (acts_of (books_in q.list)) v w

module _ {O : Type 0} (does : BoxedBook → BoxedBook → O → Type 0) (ledger : LedgerState) (p q : SeatState (Held ShardBook Act)) (f h : FollowerState Act) (r : O) (v : IsListedVisit between_books book_follows (λ x y reply. does x.0 y.0 reply) ledger.table p q f h r) where
  abbrev last_left : Held ShardBook Act
  last_left = left_beside (beside v.found v.left) (between_books v.found.value v.left)

  -- as a visit of a store
  abbrev pub plain_visit : IsVisit kept_follows does (plain p) (plain q) r
  plain_visit = record {
    before = books_in v.before;
    found = v.found.value.0;
    left = v.left.0;
    seen = plain_prefix p.list v.before v.seen;
    chain = plain_chain v.before v.chain;
    last = plain_last v.before v.found v.last;
    did = v.did;
    list = ap books_in v.list ∙ map-append (λ (x : Held ShardBook Act). x.value.0) v.before (last_left ∷ []);
    own = v.own ∙ ap (λ (n : ℕ). p.own ++ n ∷ []) (sym (plain_length v.before));
    same = v.same;
    lone = λ all. plain_all v.before p.own (v.lone all);
  }

  pub visited : (who : ℕ) (s : SeatShows) (g : History) (n : ℕ) → seat_shows p who ≡ s → IsSeatOf ledger s → IsSeat p → GoesOn (book_of v.found.value) (book_of v.left) g n → AreLegal (AreActsOfShard ledger.setup) h.list
      → Visited ledger.setup p q who s v.found.value.0 g n f h
  visited who s g n is at seat on legal =
      let x : Held ShardBook Act = v.found in
      let m : SeatState (Held ShardBook Act) = entered p v.before in
      let enter : EntersHeld p (entered p v.before) v.found = enters_to p v.before v.found v.seen v.chain v.last v.lone in
      let acts : between_books v.found.value v.left ≡ acts_for g n = lies ledger p (entered p v.before) v.found who s is at seat enter v.left g n on in
      let step : Stepped (plain p) (plain q) v.found.value.0 g n = store_visited (plain p) (plain q) r seat.pass plain_visit g n on in
      let here : last_of q.list ≡ Some last_left = ap last_of v.list ∙ last_of-snoc v.before last_left in
      let follow : MayFollowHeld between_books book_follows v.found last_left = (goes_follows (book_of v.found.value) (book_of v.left) g n on, refl) in
      let chain : IsChain (MayFollowHeld between_books book_follows) q.list =
      subst (IsChain (MayFollowHeld between_books book_follows)) (sym v.list)
      (chain-snoc (MayFollowHeld between_books book_follows) v.before last_left v.chain (λ z e. subst (λ (y : Held ShardBook Act). MayFollowHeld between_books book_follows y last_left) (by_some (sym v.last ∙ e)) follow)) in
      let whole : IsPrefix p.list q.list = prefix_trans p.list v.before q.list v.seen (last_left ∷ [], sym v.list) in
      let all : KeepsAll between_books seat.kept.ledger seat.kept.shard q.list = kept_longer p.list q.list seat.kept last_left whole chain here in
      let now : IsKeptChain q.list = record { chain = chain; ledger = seat.kept.ledger; shard = seat.kept.shard; keeps = all } in
      let k : v.found.keeper.shard ≡ s.shard = keeper_shard ledger p (entered p v.before) v.found who s is at seat enter in
      let list : h.list ≡ v.recorded.before ++ at_shard s.shard (acts_for g n) = v.recorded.list ∙ (λ i. v.recorded.before ++ at_shard (k i) (acts i)) in
      let had : last_left.keeper ≡ record { ledger = seat.kept.ledger; shard = seat.kept.shard; acts = acts_left between_books q.list } =
      ap (λ (y : Held ShardBook Act). y.keeper) (by_some (sym here ∙ all.1)) ∙ all.2 in
      let shown : acts_at s.shard h.list ≡ acts_of (books_in q.list) =
      (λ i. acts_at (sym k i) h.list) ∙ ap (acts_at v.found.keeper.shard) v.recorded.list ∙ acts_at-more v.found.keeper.shard v.recorded.before (between_books v.found.value v.left)
      ∙ ap (λ (l : List Act). l ++ between_books v.found.value v.left) v.recorded.whole ∙ ap (λ (z : KeeperState Act). z.acts) had ∙ plain_acts q.list in
      let places = kept_at q.list now in
      let before = kept_at p.list seat.kept in
      record {
        step = step;
        seat = record { pass = step.pass; kept = now };
        same = (places.0 ∙ sym before.0 ∙ ap (λ (t : SeatShows). t.ledger) is, places.1 ∙ sym before.1 ∙ ap (λ (t : SeatShows). t.shard) is);
        listed = record {
          before = v.recorded.before;
          seen = v.recorded.seen;
          list = list;
          own = v.recorded.own ∙ ap (λ (l : List Act). f.own ++ indices (length v.recorded.before) (length l)) acts;
          entered = inr shown;
        };
        follower = record {
          ledger = v.follower.0;
          room = v.follower.1;
          begins = λ _. subst (λ (l : List Act). IsPrefix (acts_of (books_in q.list)) l) (sym shown) (prefix_self (acts_of (books_in q.list)));
          one_map = λ _. one_map ledger.setup h.list at.some legal;
        };
      }
    where
      by_some : {a b : Held ShardBook Act} → Some a ≡ Some b → a ≡ b
      by_some e = cc (e)

-- ---- a caller that did not enter
pub nothing_listed : (k : ℕ) (acts had shown : List Act) (v : Listing) → acts ≡ [] → shown ≡ had → IsListed k acts had shown v v
nothing_listed k acts had shown v none same = record {
  before = v.list;
  seen = prefix_self v.list;
  list = sym (ap (λ (l : List Act). v.list ++ at_shard k l) none ∙ append-nil v.list);
  own = sym (ap (λ (l : List Act). v.own ++ indices (length v.list) (length l)) none ∙ append-nil v.own);
  entered = inl (refl, none, same);
}

pub nothing_changed : (setup : Setup) (k : ℕ) (had shown : List Act) (v : FollowerState Act) → shown ≡ had → IsUpToDate setup k had shown v v
nothing_changed setup k had shown v same = record {
  ledger = refl;
  room = refl;
  begins = λ p. subst (λ (l : List Act). IsPrefix l (acts_at k v.list)) (sym same) p;
  one_map = λ legal. legal;
}

-- a seat found another inside
pub found_inside : (p q : SeatState (Held ShardBook Act)) → (length p.list < q.expected_length) × (q ≡ record p { expected_length = q.expected_length }) → FoundInside (plain p) (plain q)
found_inside p q found = (let long = plain_length p.list in let more = found.0 in omega arith, ap plain found.1)

pub busy_seat : (p q : SeatState (Held ShardBook Act)) → IsSeat p → (length p.list < q.expected_length) × (q ≡ record p { expected_length = q.expected_length }) → IsSeat q
busy_seat p q seat found = record {
  pass = busy_pass (plain p) (plain q) seat.pass (found_inside p q found);
  kept = subst IsKeptChain (sym (ap (λ (s : SeatState (Held ShardBook Act)). s.list) found.1)) seat.kept;
}

pub busy_place : (p q : SeatState (Held ShardBook Act)) (who : ℕ) (s : SeatShows) → seat_shows p who ≡ s → (length p.list < q.expected_length) × (q ≡ record p { expected_length = q.expected_length })
    → ((seat_shows q who).ledger ≡ s.ledger) × ((seat_shows q who).shard ≡ s.shard)
busy_place p q who s is found =
    let list : q.list ≡ p.list = ap (λ (u : SeatState (Held ShardBook Act)). u.list) found.1 in
    (ap (λ (l : Books). ledger_beside (last_of l)) list ∙ ap (λ (t : SeatShows). t.ledger) is, ap (λ (l : Books). shard_beside (last_of l)) list ∙ ap (λ (t : SeatShows). t.shard) is)

busy_acts : (p q : SeatState (Held ShardBook Act)) (who : ℕ) (s : SeatShows) → seat_shows p who ≡ s → (length p.list < q.expected_length) × (q ≡ record p { expected_length = q.expected_length }) → acts_of (books_in q.list) ≡ s.shows.acts
busy_acts p q who s is found = ap (λ (u : SeatState (Held ShardBook Act)). acts_of (books_in u.list)) found.1 ∙ ap (λ (t : SeatShows). t.shows.acts) is

-- nothing is listed then
pub busy_listed : (p q : SeatState (Held ShardBook Act)) (who : ℕ) (s : SeatShows) (k : ℕ) (f h : FollowerState Act) → seat_shows p who ≡ s → (length p.list < q.expected_length) × (q ≡ record p { expected_length = q.expected_length }) → h ≡ f
    → IsListed k [] s.shows.acts (acts_of (books_in q.list)) (listing_of f) (listing_of h)
busy_listed p q who s k f h is found same =
    subst (λ (u : FollowerState Act). IsListed k [] s.shows.acts (acts_of (books_in q.list)) (listing_of f) (listing_of u)) (sym same)
    (nothing_listed k [] s.shows.acts (acts_of (books_in q.list)) (listing_of f) refl (busy_acts p q who s is found))

pub busy_follower : (setup : Setup) (p q : SeatState (Held ShardBook Act)) (who : ℕ) (s : SeatShows) (k : ℕ) (f h : FollowerState Act) → seat_shows p who ≡ s → (length p.list < q.expected_length) × (q ≡ record p { expected_length = q.expected_length }) → h ≡ f
    → IsUpToDate setup k s.shows.acts (acts_of (books_in q.list)) f h
busy_follower setup p q who s k f h is found same =
    subst (λ (u : FollowerState Act). IsUpToDate setup k s.shows.acts (acts_of (books_in q.list)) f u) (sym same)
    (nothing_changed setup k s.shows.acts (acts_of (books_in q.list)) f (busy_acts p q who s is found))

-- a seat that was let in has seen the end of all visits that it expected
pub expected_plain : (p q : SeatState (Held ShardBook Act)) → p.expected_length < length q.list → p.expected_length < length (books_in q.list)
expected_plain p q expected = let long = plain_length q.list in omega arith

-- ---- what is listed
-- what is listed is what the deed is
listed_as : (k : ℕ) (acts done had shown : List Act) (v w : Listing) → done ≡ acts → IsListed k acts had shown v w → IsListed k done had shown v w
listed_as k acts done had shown v w same listed = subst (λ (l : List Act). IsListed k l had shown v w) (sym same) listed

pub listed_trim : (k who keep : ℕ) (r : Result ℕ Fault) (had shown : List Act) (v w : Listing) → IsListed k (acts_for [] (given_by r)) had shown v w → IsListed k (act_if who (trim_deed keep r)) had shown v w
listed_trim k who keep (Ok n) had shown v w listed = listed
listed_trim k who keep (Err e) had shown v w listed = listed

pub listed_called : (k who : ℕ) (o : Operation) (r : Result Answer Fault) (had shown : List Act) (v w : Listing) → IsListed k (acts_for (made_by who o r) 0) had shown v w → IsListed k (act_if who (deed_of o r)) had shown v w
listed_called k who o r had shown v w listed = listed_as k (acts_for (made_by who o r) 0) (act_if who (deed_of o r)) had shown v w (act_called who o r) listed

pub listed_inspected : (k who : ℕ) (o : Operation) (l : Inspection) (had shown : List Act) (v w : Listing) → IsListed k (acts_for (events_at_inspection l who o) 0) had shown v w → IsListed k (act_if who (inspected o l)) had shown v w
listed_inspected k who o (Done a) had shown v w listed = listed
listed_inspected k who o (Refused e) had shown v w listed = listed_as k [] (act_if who (deed_of o (Err e))) had shown v w (act_called who o (Err e)) listed
listed_inspected k who o (Rebuildable s) had shown v w listed = listed

-- a call that was made is on the name that was asked for
pub calls_made : (shard : Event → ℕ) (k who : ℕ) (o : Operation) (r : Result Answer Fault) → ((note : Note) → shard (record { who = who; operation = o; note = note }) ≡ k) → AreCallsAt shard k (made_by who o r)
calls_made shard k who o (Ok a) at = (at (note_of a), tt)
calls_made shard k who o (Err e) at = tt

pub calls_inspected : (shard : Event → ℕ) (k who : ℕ) (o : Operation) (l : Inspection) → ((note : Note) → shard (record { who = who; operation = o; note = note }) ≡ k) → AreCallsAt shard k (events_at_inspection l who o)
calls_inspected shard k who o (Done a) at = (at (note_of a), tt)
calls_inspected shard k who o (Refused e) at = tt
calls_inspected shard k who o (Rebuildable s) at = tt

-- a visit that did nothing, and then another
pub listed_later : (k : ℕ) (acts had between shown : List Act) (u v w : Listing) → IsListed k [] had between u v → IsListed k acts between shown v w → IsListed k acts had shown u w
listed_later k acts had between shown u v w first then = record {
  before = then.before;
  seen = prefix_trans u.list v.list then.before (prefix_trans u.list first.before v.list first.seen ([], sym first.list)) then.seen;
  list = then.list;
  own = then.own ∙ ap (λ (l : List ℕ). l ++ indices (length then.before) (length acts)) (first.own ∙ append-nil u.own);
  entered = by first.entered then.entered;
}
  where
    by : ((v ≡ u) × ◌≡◌ {A = List Act} [] [] × (between ≡ had)) ⊎ (acts_at k v.list ≡ between) → ((w ≡ v) × (acts ≡ []) × (shown ≡ between)) ⊎ (acts_at k w.list ≡ shown) → ((w ≡ u) × (acts ≡ []) × (shown ≡ had)) ⊎ (acts_at k w.list ≡ shown)
    by first (inr all) = inr all
    by (inl same) (inl none) = inl (none.0 ∙ same.0, none.1, none.2 ∙ same.2)
    by (inr all) (inl none) = inr (ap (λ (l : Listing). acts_at k l.list) none.0 ∙ all ∙ sym none.2)

pub kept_later : (setup : Setup) (k : ℕ) (had between shown : List Act) (u v w : FollowerState Act) → IsUpToDate setup k had between u v → IsUpToDate setup k between shown v w → IsUpToDate setup k had shown u w
kept_later setup k had between shown u v w first then = record {
  ledger = then.ledger ∙ first.ledger;
  room = then.room ∙ first.room;
  begins = λ p. then.begins (first.begins p);
  one_map = λ legal. then.one_map (first.one_map legal);
}

-- a put that was refused outside did nothing
pub refused_acts : (who : ℕ) (o : Operation) (r : Result Answer Fault) (f : Fault) → r ≡ Err f → (f ≡ NoMemory) ⊎ (f ≡ TooLong) → act_if who (deed_of o r) ≡ []
refused_acts who o r f is (inl e) = ap (λ (s : Result Answer Fault). act_if who (deed_of o s)) (is ∙ ap (λ (t : Fault). Err t) e)
refused_acts who o r f is (inr e) = ap (λ (s : Result Answer Fault). act_if who (deed_of o s)) (is ∙ ap (λ (t : Fault). Err t) e)
