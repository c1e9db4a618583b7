-- All seats of a pass: split, joined, and with receipts taken in.
use Rattle.std.proofs.Common.{◌≡◌, ◌⊎◌, ⊎_elim, ℕ, zero, suc, ◌+◌, ◌-◌, ◌<◌, ◌≤◌, List, [], ◌∷◌, ◌++◌, map, take, set, get_or, length, Some, slice_get, refl, ap, sym, subst, ◌∙◌, arith, add-one}
use Rattle.std.proofs.lemmas.Option.{slice_get_read}
use Rattle.std.proofs.lemmas.List.{set-get_or}
use mathlib.Core.List.{IsPrefix}
use Rattle.gate.proofs.Lists.{prefix_trans}
use Rattle.book.specs.Serial.{Act}
use Rattle.one_map.specs.OneMap.{IsLegalOneMap}
use Rattle.ledger.specs.declared.view.ShardAct.{ShardAct}
use Rattle.ledger.specs.Acts.{LedgerState, FollowerState, ReceiptState, acts_at}
use Rattle.ledger_map.specs.Legal.{calls_of}
use Rattle.shared.specs.Passes.{Which, Shows, ReceiptShows, IsConsistent, seen_by}
use Rattle.shard.specs.Seats.{SeatShows, IsSeatOf}
use Rattle.sharded.specs.Passes.{stores_of, receipt_stores, HaveWidth, AreTaken, AreJoined, AreAccepted, HaveRoomAgain, HaveActsOfShards, AreConsistent, HaveRoom, HasRoomOfOne, kept_in_split, given_in_split, AreSplitInPart}
use Rattle.sharded.specs.Listings.{AreBeginnings}
use Rattle.sharded.specs.Seats.{shows_of, pass_shows, seat_stores, IsSeatAt, IsPassOf, IsReceiptOf, kept_seat, given_seat, AreSeatsInPart, IsSamePlace, IsSeatJoined, IsSeatAccepted, seen_seat}
use Rattle.sharded.proofs.Passes.{mapped, mapped_at, mapped_next, taken_next, room_next, split_stores, joined_of_shards, accepted_of_shards, kept_of_shards, given_of_shards, restored, restored_of_shards}
use Rattle.sharded.proofs.Seats.{shows_length, shows_there, acts_longer}
use Rattle.sharded.proofs.Taken.{taken_length, same_length}

-- ---- what the seats show
pub seat_stores_of : (vs : List SeatShows) → seat_stores vs ≡ stores_of (shows_of vs)
seat_stores_of [] = refl
seat_stores_of (v ∷ vs) = ap (λ (l : List Which). v.shows.store ∷ l) (seat_stores_of vs)

pub joined_shows : (vs os ws : List SeatShows) → AreTaken IsSeatJoined vs os ws → AreJoined (shows_of vs) (shows_of os) (shows_of ws)
joined_shows [] os ws are = ap shows_of are
joined_shows (v ∷ vs) os [] are = absurd are
joined_shows (v ∷ vs) [] (w ∷ ws) are = (ap (λ (s : SeatShows). s.shows) are.0, joined_shows vs [] ws are.1)
joined_shows (v ∷ vs) (o ∷ os) (w ∷ ws) are = (are.0.joined, joined_shows vs os ws are.1)

pub accepted_shows : (vs : List SeatShows) (rs : List ReceiptShows) (ws : List SeatShows) → AreTaken IsSeatAccepted vs rs ws → AreAccepted (shows_of vs) rs (shows_of ws)
accepted_shows [] rs ws are = ap shows_of are
accepted_shows (v ∷ vs) rs [] are = absurd are
accepted_shows (v ∷ vs) [] (w ∷ ws) are = (ap (λ (s : SeatShows). s.shows) are.0, accepted_shows vs [] ws are.1)
accepted_shows (v ∷ vs) (r ∷ rs) (w ∷ ws) are = (are.0.accepted, accepted_shows vs rs ws are.1)

pub kept_shows : (vs : List SeatShows) → shows_of (map kept_seat vs) ≡ map kept_in_split (shows_of vs)
kept_shows [] = refl
kept_shows (v ∷ vs) = ap (λ (l : List Shows). kept_in_split v.shows ∷ l) (kept_shows vs)

pub given_shows : (who : ℕ) (vs : List SeatShows) → shows_of (map (given_seat who) vs) ≡ map (given_in_split who) (shows_of vs)
given_shows who [] = refl
given_shows who (v ∷ vs) = ap (λ (l : List Shows). given_in_split who v.shows ∷ l) (given_shows who vs)

pub seen_shows : (vs : List SeatShows) → map seen_seat vs ≡ map seen_by (shows_of vs)
seen_shows [] = refl
seen_shows (v ∷ vs) = ap (λ (l : List ReceiptShows). seen_by v.shows ∷ l) (seen_shows vs)

take_shows : (n : ℕ) (vs : List SeatShows) → shows_of (take n vs) ≡ take n (shows_of vs)
take_shows zero vs = refl
take_shows (suc n) [] = refl
take_shows (suc n) (v ∷ vs) = ap (λ (l : List Shows). v.shows ∷ l) (take_shows n vs)

mapped_shows : (n : ℕ) (vs : List SeatShows) → shows_of (mapped kept_seat n vs) ≡ mapped kept_in_split n (shows_of vs)
mapped_shows zero vs = refl
mapped_shows (suc n) [] = refl
mapped_shows (suc n) (v ∷ vs) = ap (λ (l : List Shows). kept_in_split v.shows ∷ l) (mapped_shows n vs)

pub part_shows : (who : ℕ) (vs ws given : List SeatShows) → AreSeatsInPart who vs ws given → AreSplitInPart who (shows_of vs) (shows_of ws) (shows_of given)
part_shows who vs ws given (n, are, gave, room) = (
  n,
  ap shows_of are ∙ mapped_shows n vs,
  ap shows_of gave ∙ given_shows who (take n vs) ∙ ap (map (given_in_split who)) (take_shows n vs),
  subst HaveRoom (take_shows n vs) room,
)

-- ---- each of the seats
-- where there is one of each
taken_both : {V O : Type 0} (R : V → O → V → Type 0) (vs : List V) (os : List O) (ws : List V) → AreTaken R vs os ws → length os ≡ length vs → (k : ℕ) (w : V) → slice_get ws k ≡ Some w
    → (v : V) × (slice_get vs k ≡ Some v) × ((o : O) × (slice_get os k ≡ Some o) × R v o w)
taken_both R [] os ws are long k w e = let none = ap (λ l. slice_get l k) (sym are) ∙ e in absurd (cc)
taken_both R (v ∷ vs) os [] are long k w e = absurd are
taken_both R (v ∷ vs) [] (x ∷ ws) are long k w e = absurd (omega arith)
taken_both R (v ∷ vs) (o ∷ os) (x ∷ ws) are long zero w e = let same : x ≡ w = cc in (v, refl, (o, refl, subst (R v o) same are.0))
taken_both R (v ∷ vs) (o ∷ os) (x ∷ ws) are long (suc k) w e = taken_both R vs os ws are.1 (omega arith) k w e

pub map_there : {X Y : Type 0} (f : X → Y) (xs : List X) (k : ℕ) (y : Y) → slice_get (map f xs) k ≡ Some y → (x : X) × (slice_get xs k ≡ Some x) × (f x ≡ y)
map_there f [] k y e = absurd (cc)
map_there f (x ∷ xs) zero y e = let same : f x ≡ y = cc in (x, refl, same)
map_there f (x ∷ xs) (suc k) y e = map_there f xs k y e

map_length : {X Y : Type 0} (f : X → Y) (xs : List X) → length (map f xs) ≡ length xs
map_length f [] = refl
map_length f (x ∷ xs) = ap suc (map_length f xs)

one_map_in : (l m : LedgerState) (list : List (ShardAct Act)) → l ≡ m → IsLegalOneMap l.setup.count l.setup.about (calls_of list) → IsLegalOneMap m.setup.count m.setup.about (calls_of list)
one_map_in l m list same legal = subst (λ (x : LedgerState). IsLegalOneMap x.setup.count x.setup.about (calls_of list)) same legal

-- a seat of the same place and store stays one of the ledger
seat_of : (l m : LedgerState) (v w : SeatShows) → l ≡ m → IsSamePlace v w → w.shows.store ≡ v.shows.store → IsSeatOf l v → IsSeatOf m w
seat_of l m v w same place store of = record {
  ledger_is = place.0 ∙ of.ledger_is ∙ ap (λ (x : LedgerState). Some x.table) same;
  width = ap (λ (s : Which). s.width) store ∙ of.width ∙ ap (λ (x : LedgerState). x.setup.about) same;
  some = subst (λ (x : LedgerState). 0 < x.setup.count) same of.some;
}

-- ---- joined
pub joined_pass : (vs os ws : List SeatShows) (f o g : FollowerState Act) → IsPassOf vs f → IsPassOf os o → AreTaken IsSeatJoined vs os ws → length os ≡ length vs → g.ledger ≡ f.ledger → g.room ≡ f.room + o.room → o.ledger ≡ f.ledger
    → (g.list ≡ f.list) ⊎ (g.list ≡ o.list) → IsPrefix f.list g.list → IsPrefix o.list g.list → IsPassOf ws g
joined_pass vs os ws f o g mine theirs are long ledger room same one first second = record {
  count = taken_length (λ (s : SeatShows). s.shows.store) IsSeatJoined vs os ws are ∙ mine.count ∙ ap (λ (l : LedgerState). l.setup.count) (sym ledger);
  some = subst (λ (l : LedgerState). 0 < l.setup.count) (sym ledger) mine.some;
  each = λ k w e. at k w (taken_both IsSeatJoined vs os ws are long k w e);
  one_map = one_map_in f.ledger g.ledger g.list (sym ledger)
      (⊎_elim (λ (e : g.list ≡ f.list). subst (λ (l : List (ShardAct Act)). IsLegalOneMap f.ledger.setup.count f.ledger.setup.about (calls_of l)) (sym e) mine.one_map)
      (λ (e : g.list ≡ o.list). subst (λ (l : List (ShardAct Act)). IsLegalOneMap f.ledger.setup.count f.ledger.setup.about (calls_of l)) (sym e) (one_map_in o.ledger f.ledger o.list same theirs.one_map)) one);
  homed = joined_of_shards (shows_of vs) (shows_of os) (shows_of ws) (shows_length os ∙ long ∙ sym (shows_length vs)) mine.homed theirs.homed (joined_shows vs os ws are);
}
  where
    at : (k : ℕ) (w : SeatShows) → (v : SeatShows) × (slice_get vs k ≡ Some v) × ((x : SeatShows) × (slice_get os k ≡ Some x) × IsSeatJoined v x w) → IsSeatAt g k w
    at k w (v, here, (x, there, j)) =
        let was = mine.each k v here in
        let other = theirs.each k x there in record {
          of = seat_of f.ledger g.ledger v w (sym ledger) j.same j.joined.store was.of;
          shard = j.same.1 ∙ was.shard;
          room = j.joined.room ∙ (λ i. was.room i + other.room i) ∙ sym room;
          begins = ⊎_elim (λ (e : w.shows.acts ≡ v.shows.acts). subst (λ (l : List Act). IsPrefix l (acts_at k g.list)) (sym e) (prefix_trans v.shows.acts (acts_at k f.list) (acts_at k g.list) was.begins (acts_longer k f.list g.list first)))
              (λ (e : w.shows.acts ≡ x.shows.acts). subst (λ (l : List Act). IsPrefix l (acts_at k g.list)) (sym e) (prefix_trans x.shows.acts (acts_at k o.list) (acts_at k g.list) other.begins (acts_longer k o.list g.list second))) j.one;
          agrees = j.agrees;
        }

-- ---- what every pass shows
pub pass_some : (vs : List SeatShows) (f : FollowerState Act) → IsPassOf vs f → 0 < length (shows_of vs)
pass_some vs f pass = subst (λ (n : ℕ). 0 < n) (sym (shows_length vs ∙ pass.count)) pass.some

pub pass_consistent : (vs : List SeatShows) (f : FollowerState Act) → IsPassOf vs f → AreConsistent (shows_of vs)
pass_consistent vs f pass k v e =
    let found = map_there (λ (s : SeatShows). s.shows) vs k v e in
    subst IsConsistent found.2 (pass.each k found.0 found.1).agrees

-- ---- receipts
pub seen_receipt : (vs : List SeatShows) (f : FollowerState Act) (r : ReceiptState Act) → IsPassOf vs f → r.ledger ≡ f.ledger → r.list ≡ f.list → IsReceiptOf (map seen_seat vs) r
seen_receipt vs f r pass ledger list = record {
  begins = λ k x e. let found = map_there seen_seat vs k x e in
      subst (λ (u : List Act × List (ShardAct Act)). IsPrefix u.0 (acts_at k u.1)) (λ i. ((found.2 i).acts, sym list i)) (pass.each k found.0 found.1).begins;
  one_map = one_map_in f.ledger r.ledger r.list (sym ledger) (subst (λ (l : List (ShardAct Act)). IsLegalOneMap f.ledger.setup.count f.ledger.setup.about (calls_of l)) (sym list) pass.one_map);
}

pub accepted_pass : (vs : List SeatShows) (rs : List ReceiptShows) (ws : List SeatShows) (f g : FollowerState Act) (r : ReceiptState Act) → IsPassOf vs f → IsReceiptOf rs r → AreTaken IsSeatAccepted vs rs ws → length rs ≡ length vs → g ≡ record f { list = g.list } → r.ledger ≡ f.ledger
    → (g.list ≡ f.list) ⊎ (g.list ≡ r.list) → IsPrefix f.list g.list → IsPrefix r.list g.list → IsPassOf ws g
accepted_pass vs rs ws f g r mine theirs are long kept same one first second = record {
  count = taken_length (λ (s : SeatShows). s.shows.store) IsSeatAccepted vs rs ws are ∙ mine.count ∙ ap (λ (l : LedgerState). l.setup.count) (sym ledger);
  some = subst (λ (l : LedgerState). 0 < l.setup.count) (sym ledger) mine.some;
  each = λ k w e. at k w (taken_both IsSeatAccepted vs rs ws are long k w e);
  one_map = one_map_in f.ledger g.ledger g.list (sym ledger)
      (⊎_elim (λ (e : g.list ≡ f.list). subst (λ (l : List (ShardAct Act)). IsLegalOneMap f.ledger.setup.count f.ledger.setup.about (calls_of l)) (sym e) mine.one_map)
      (λ (e : g.list ≡ r.list). subst (λ (l : List (ShardAct Act)). IsLegalOneMap f.ledger.setup.count f.ledger.setup.about (calls_of l)) (sym e) (one_map_in r.ledger f.ledger r.list same theirs.one_map)) one);
  homed = accepted_of_shards (shows_of vs) rs (shows_of ws) mine.homed (accepted_shows vs rs ws are);
}
  where
    ledger : g.ledger ≡ f.ledger
    ledger = ap (λ (x : FollowerState Act). x.ledger) kept

    at : (k : ℕ) (w : SeatShows) → (v : SeatShows) × (slice_get vs k ≡ Some v) × ((x : ReceiptShows) × (slice_get rs k ≡ Some x) × IsSeatAccepted v x w) → IsSeatAt g k w
    at k w (v, here, (x, there, j)) =
        let was = mine.each k v here in record {
          of = seat_of f.ledger g.ledger v w (sym ledger) j.same (ap (λ (s : Shows). s.store) j.accepted.kept) was.of;
          shard = j.same.1 ∙ was.shard;
          room = ap (λ (s : Shows). s.room) j.accepted.kept ∙ was.room ∙ ap (λ (y : FollowerState Act). y.room) (sym kept);
          begins = ⊎_elim (λ (e : w.shows ≡ v.shows). subst (λ (s : Shows). IsPrefix s.acts (acts_at k g.list)) (sym e) (prefix_trans v.shows.acts (acts_at k f.list) (acts_at k g.list) was.begins (acts_longer k f.list g.list first)))
              (λ (e : seen_by w.shows ≡ x). subst (λ (s : ReceiptShows). IsPrefix s.acts (acts_at k g.list)) (sym e) (prefix_trans x.acts (acts_at k r.list) (acts_at k g.list) (theirs.begins k x there) (acts_longer k r.list g.list second))) j.accepted.one;
          agrees = j.agrees;
        }

-- ---- split
pub kept_pass : (vs : List SeatShows) (f g : FollowerState Act) → IsPassOf vs f → g ≡ record f { room = f.room - 1 } → IsPassOf (map kept_seat vs) g
kept_pass vs f g pass is = record {
  count = map_length kept_seat vs ∙ pass.count ∙ ap (λ (x : FollowerState Act). x.ledger.setup.count) (sym is);
  some = subst (λ (x : FollowerState Act). 0 < x.ledger.setup.count) (sym is) pass.some;
  each = λ k w e. let found = map_there kept_seat vs k w e in let was = pass.each k found.0 found.1 in
      subst (λ (u : FollowerState Act × SeatShows). IsSeatAt u.0 k u.1) (λ i. (sym is i, found.2 i)) (record {
        of = record { ledger_is = was.of.ledger_is; width = was.of.width; some = was.of.some };
        shard = was.shard;
        room = ap (λ (n : ℕ). n - 1) was.room;
        begins = was.begins;
        agrees = record { seen_is = was.agrees.seen_is; trimmed_is = was.agrees.trimmed_is; made_is = was.agrees.made_is; room = was.agrees.room };
      });
  one_map = subst (λ (x : FollowerState Act). IsLegalOneMap x.ledger.setup.count x.ledger.setup.about (calls_of x.list)) (sym is) pass.one_map;
  homed = subst HaveActsOfShards (sym (kept_shows vs)) (kept_of_shards (shows_of vs) pass.homed);
}

pub given_pass : (who : ℕ) (vs : List SeatShows) (f g : FollowerState Act) → IsPassOf vs f → g ≡ record f { own = []; room = 1 } → IsPassOf (map (given_seat who) vs) g
given_pass who vs f g pass is = record {
  count = map_length (given_seat who) vs ∙ pass.count ∙ ap (λ (x : FollowerState Act). x.ledger.setup.count) (sym is);
  some = subst (λ (x : FollowerState Act). 0 < x.ledger.setup.count) (sym is) pass.some;
  each = λ k w e. let found = map_there (given_seat who) vs k w e in let was = pass.each k found.0 found.1 in
      subst (λ (u : FollowerState Act × SeatShows). IsSeatAt u.0 k u.1) (λ i. (sym is i, found.2 i)) (record {
        of = record { ledger_is = was.of.ledger_is; width = was.of.width; some = was.of.some };
        shard = was.shard;
        room = refl;
        begins = was.begins;
        agrees = record { seen_is = was.agrees.seen_is; trimmed_is = was.agrees.trimmed_is; made_is = refl; room = was.agrees.room };
      });
  one_map = subst (λ (x : FollowerState Act). IsLegalOneMap x.ledger.setup.count x.ledger.setup.about (calls_of x.list)) (sym is) pass.one_map;
  homed = subst HaveActsOfShards (sym (given_shows who vs)) (given_of_shards who (shows_of vs));
}

-- ---- a split that is taken back
-- a seat has its room again, and shows the acts that it showed. It is consistent if it was
record IsSame (v w : SeatShows) : Type 0 where
  pub place : IsSamePlace v w
  pub store : w.shows.store ≡ v.shows.store
  pub room : w.shows.room ≡ v.shows.room
  pub acts : w.shows.acts ≡ v.shows.acts
  pub agrees : IsConsistent v.shows → IsConsistent w.shows

back_at : (who n : ℕ) (vs ws : List SeatShows) → HaveRoom (shows_of (take n vs)) → AreTaken IsSeatJoined (mapped kept_seat n vs) (map (given_seat who) (take n vs)) ws → (k : ℕ) (w : SeatShows) → slice_get ws k ≡ Some w → (v : SeatShows) × (slice_get vs k ≡ Some v) × IsSame v w
back_at who zero [] ws some are k w e = let none = ap (λ l. slice_get l k) (sym are) ∙ e in absurd (cc)
back_at who (suc n) [] ws some are k w e = let none = ap (λ l. slice_get l k) (sym are) ∙ e in absurd (cc)
back_at who zero (v ∷ vs) [] some are k w e = absurd are
back_at who (suc n) (v ∷ vs) [] some are k w e = absurd are
back_at who zero (v ∷ vs) (x ∷ ws) some are zero w e = let same : x ≡ w = cc in (v, refl, subst (IsSame v) (sym are.0 ∙ same) (record { place = (refl, refl); store = refl; room = refl; acts = refl; agrees = λ a. a }))
back_at who zero (v ∷ vs) (x ∷ ws) some are (suc k) w e = back_at who zero vs ws tt are.1 k w e
back_at who (suc n) (v ∷ vs) (x ∷ ws) some are zero w e =
    let same : x ≡ w = cc in
    let left : 1 ≤ v.shows.room = some.0 in (
      v,
      refl,
      subst (IsSame v) same (record {
        place = are.0.same;
        store = are.0.joined.store;
        room = are.0.joined.room ∙ omega arith;
        acts = ⊎_elim (λ (a : x.shows.acts ≡ v.shows.acts). a) (λ (a : x.shows.acts ≡ v.shows.acts). a) are.0.one;
        agrees = λ _. are.0.agrees;
      }),
    )
back_at who (suc n) (v ∷ vs) (x ∷ ws) some are (suc k) w e = back_at who n vs ws some.1 are.1 k w e

pub back_restored : (who : ℕ) (vs us given ws : List SeatShows) → AreSeatsInPart who vs us given → AreTaken IsSeatJoined us given ws → HaveRoomAgain (shows_of vs) (shows_of ws)
back_restored who vs us given ws part are = restored who (shows_of vs) (shows_of us) (shows_of given) (shows_of ws) (part_shows who vs us given part) (joined_shows us given ws are)

pub back_pass : (who : ℕ) (vs us given ws : List SeatShows) (f : FollowerState Act) → IsPassOf vs f → AreSeatsInPart who vs us given → AreTaken IsSeatJoined us given ws → IsPassOf ws f
back_pass who vs us given ws f pass part are =
    let joined : AreTaken IsSeatJoined (mapped kept_seat part.0 vs) (map (given_seat who) (take part.0 vs)) ws = subst (λ (u : List SeatShows × List SeatShows). AreTaken IsSeatJoined u.0 u.1 ws) (λ i. (part.1 i, part.2 i)) are in record {
      some = pass.some;
      count = sym (shows_length ws) ∙ restored_length (shows_of vs) (shows_of ws) (back_restored who vs us given ws part are) ∙ shows_length vs ∙ pass.count;
      each = λ k w e. let found = back_at who part.0 vs ws part.3 joined k w e in let was = pass.each k found.0 found.1 in let same = found.2 in record {
        of = seat_of f.ledger f.ledger found.0 w refl same.place same.store was.of;
        shard = same.place.1 ∙ was.shard;
        room = same.room ∙ was.room;
        begins = subst (λ (l : List Act). IsPrefix l (acts_at k f.list)) (sym same.acts) was.begins;
        agrees = same.agrees was.agrees;
      };
      one_map = pass.one_map;
      homed = restored_of_shards (shows_of vs) (shows_of ws) pass.homed (back_restored who vs us given ws part are);
    }
  where
    restored_length : (xs ys : List Shows) → HaveRoomAgain xs ys → length ys ≡ length xs
    restored_length [] [] are = refl
    restored_length [] (y ∷ ys) are = absurd are
    restored_length (x ∷ xs) [] are = absurd are
    restored_length (x ∷ xs) (y ∷ ys) are = ap suc (restored_length xs ys are.1)

-- a receipt more was made, and the seat shows what it showed
pub receipt_next : (n : ℕ) (vs ws : List SeatShows) (rs : List ReceiptShows) (v w : SeatShows) (r : ReceiptShows) → ws ≡ vs → rs ≡ map seen_seat (take n vs) → n < length vs → v ≡ get_or ws n v → w ≡ v → r ≡ seen_by v.shows
    → (set ws n w ≡ vs) × (rs ++ r ∷ [] ≡ map seen_seat (take (n + 1) vs))
receipt_next n vs ws rs v w r same before below own stays given =
    let here : slice_get vs n ≡ Some v = slice_get_read vs (length vs) n v refl below (own ∙ ap (λ l. get_or l n v) same) in (
      ap (set ws n) (stays ∙ own) ∙ set-get_or ws n v ∙ same,
      subst (λ k. rs ++ r ∷ [] ≡ map seen_seat (take k vs)) (sym (add-one n)) ((λ i. before i ++ given i ∷ []) ∙ taken_next seen_seat vs n v here),
    )

-- ---- a split of the next seat
pub record SplitAt (who n : ℕ) (vs ps given : List SeatShows) (own : SeatShows) : Type 0 where
  pub seats : ps ≡ mapped kept_seat n vs
  pub given_is : given ≡ map (given_seat who) (take n vs)
  pub room : HaveRoom (shows_of (take n vs))
  pub below : n < length vs
  pub own_is : own ≡ get_or ps n own
  pub some : 1 ≤ own.shows.room

split_at : (who n : ℕ) (vs ws given : List SeatShows) (v : SeatShows) → SplitAt who n vs ws given v → slice_get vs n ≡ Some v
split_at who n vs ws given v s = mapped_at kept_seat vs n v s.below (s.own_is ∙ ap (λ l. get_or l n v) s.seats)

room_more : (vs : List SeatShows) (n : ℕ) (v : SeatShows) → slice_get vs n ≡ Some v → 1 ≤ v.shows.room → HaveRoom (shows_of (take n vs)) → HaveRoom (shows_of (take (suc n) vs))
room_more vs n v e l have = subst HaveRoom (sym (take_shows (suc n) vs)) (room_next (shows_of vs) n v.shows (shows_there vs n v e) l (subst HaveRoom (take_shows n vs) have))

pub split_next : (who n : ℕ) (vs ws given : List SeatShows) (v w g : SeatShows) → SplitAt who n vs ws given v → w ≡ kept_seat v → g ≡ given_seat who v
    → (set ws n w ≡ mapped kept_seat (n + 1) vs) × (given ++ g ∷ [] ≡ map (given_seat who) (take (n + 1) vs)) × HaveRoom (shows_of (take (n + 1) vs))
split_next who n vs ws given v w g s is new =
    let here : slice_get vs n ≡ Some v = split_at who n vs ws given v s in
    subst (λ k. (set ws n w ≡ mapped kept_seat k vs) × (given ++ g ∷ [] ≡ map (given_seat who) (take k vs)) × HaveRoom (shows_of (take k vs))) (sym (add-one n)) (
      (λ i. set (s.seats i) n (is i)) ∙ mapped_next kept_seat vs n v here,
      (λ i. s.given_is i ++ new i ∷ []) ∙ taken_next (given_seat who) vs n v here,
      room_more vs n v here s.some s.room,
    )

pub split_stopped : (who n : ℕ) (vs ws given later : List SeatShows) (v w : SeatShows) → SplitAt who n vs ws given v → w ≡ v → later ≡ given → AreSeatsInPart who vs (set ws n w) later
split_stopped who n vs ws given later v w s same less = (
  n,
  ap (set ws n) (same ∙ s.own_is) ∙ set-get_or ws n v ∙ s.seats,
  less ∙ s.given_is,
  s.room,
)

-- a seat at a split, by what its parts show
pub kept_by : (v w : SeatShows) → w.shows ≡ kept_in_split v.shows → IsSamePlace v w → w ≡ kept_seat v
kept_by v w shows place i = record { shows = shows i; ledger = place.0 i; shard = place.1 i }

pub given_by : (who : ℕ) (v w : SeatShows) → w.shows ≡ given_in_split who v.shows → IsSamePlace v w → w ≡ given_seat who v
given_by who v w shows place i = record { shows = shows i; ledger = place.0 i; shard = place.1 i }

-- the room of a seat is that of one that is shown
pub room_of_one : (vs : List SeatShows) (n : ℕ) (v : SeatShows) → slice_get vs n ≡ Some v → v.shows.room ≡ 1 → HasRoomOfOne (shows_of vs)
room_of_one vs n v e one = (n, v.shows, shows_there vs n v e, one)

-- the stores of the seats that are left by a split in part
pub part_stores : (who : ℕ) (vs ws given : List SeatShows) (ss : List Which) → stores_of (shows_of vs) ≡ ss → AreSeatsInPart who vs ws given → (seat_stores ws ≡ ss) × IsPrefix (seat_stores given) ss
part_stores who vs ws given ss e part =
    let split = split_stores who (shows_of vs) (shows_of ws) (shows_of given) ss e (part_shows who vs ws given part) in
    (seat_stores_of ws ∙ split.0, subst (λ (l : List Which). IsPrefix l ss) (sym (seat_stores_of given)) split.1)

pub same_many : (vs ws : List SeatShows) → stores_of (shows_of vs) ≡ stores_of (shows_of ws) → length vs ≡ length ws
same_many vs ws e = same_length (λ (s : SeatShows). s.shows.store) (λ (s : SeatShows). s.shows.store) vs ws (seat_stores_of vs ∙ e ∙ sym (seat_stores_of ws))

pub receipts_many : (rs : List ReceiptShows) (vs : List SeatShows) → receipt_stores rs ≡ stores_of (shows_of vs) → length rs ≡ length vs
receipts_many rs vs e = same_length (λ (r : ReceiptShows). r.store) (λ (s : SeatShows). s.shows.store) rs vs (e ∙ sym (seat_stores_of vs))

-- the room that is left at each shard is left of the follower
pub some_room : (vs : List SeatShows) (f : FollowerState Act) → IsPassOf vs f → (least : ℕ) → ((k : ℕ) (v : Shows) → slice_get (shows_of vs) k ≡ Some v → least ≤ v.room) → 1 < least → 1 < f.room
some_room vs f pass least each more = by vs pass.count pass.each each
  where
    by : (xs : List SeatShows) → length xs ≡ f.ledger.setup.count → ((k : ℕ) (s : SeatShows) → slice_get xs k ≡ Some s → IsSeatAt f k s) → ((k : ℕ) (v : Shows) → slice_get (shows_of xs) k ≡ Some v → least ≤ v.room) → 1 < f.room
    by [] count at le = let some = pass.some in absurd (omega arith)
    by (x ∷ xs) count at le = let here = (at 0 x refl).room in let l = le 0 x.shows refl in omega arith

-- ---- what all seats keep, as a clause sees it
pub pass_listed : (vs : List SeatShows) (f : FollowerState Act) → IsPassOf vs f → (w : ℕ) → HaveWidth w (shows_of vs) → IsLegalOneMap (length (shows_of vs)) w (calls_of f.list)
pass_listed [] f pass w wide = let none = pass.count in let some = pass.some in absurd (omega arith)
pass_listed (v ∷ vs) f pass w wide =
    let about : f.ledger.setup.about ≡ w = sym (pass.each 0 v refl).of.width ∙ wide 0 v.shows refl in
    subst (λ (u : ℕ × ℕ). IsLegalOneMap u.0 u.1 (calls_of f.list)) (λ i. ((sym pass.count ∙ sym (shows_length (v ∷ vs))) i, about i)) pass.one_map

pub pass_beginnings : (vs : List SeatShows) (f : FollowerState Act) → IsPassOf vs f → AreBeginnings (pass_shows vs f)
pass_beginnings vs f pass k x e =
    let found = map_there (λ (s : SeatShows). s.shows) vs k x e in
    subst (λ (y : Shows). IsPrefix y.acts (acts_at k f.list)) found.2 (pass.each k found.0 found.1).begins
