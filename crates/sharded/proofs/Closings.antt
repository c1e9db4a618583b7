-- The books of a store that is closed, from the last shard on.
use Rattle.std.proofs.Common.{◌≡◌, ◌≢◌, ◌⊎◌, inl, inr, ℕ, zero, suc, ◌<◌, ◌≤◌, ◌==◌, true, false, List, [], ◌∷◌, ◌++◌, reverse, length, Some, slice_get, refl, ap, sym, subst, ◌∙◌, arith, append_assoc, length-append}
use Rattle.std.proofs.lemmas.List.{append-nil, reverse-append, map-append}
use Rattle.std.proofs.lemmas.Option.{slice_get_within}
use Rattle.std.proofs.lemmas.Bool.Decides.{eqb_tells}
use Rattle.book.specs.Serial.{Act}
use Rattle.ledger.specs.Acts.{FollowerState, acts_at, HasAll}
use Rattle.shard.specs.Seats.{SeatShows}
use Rattle.sharded.specs.Listings.{AreAllListed}
use Rattle.sharded.specs.Seats.{shows_of, pass_shows, IsPassOf}
use Rattle.sharded.proofs.Joins.{map_there}
use Rattle.history.specs.History.{IsLegal}
use Rattle.book.specs.Contents.{Contents}
use Rattle.shared.specs.Passes.{Shows}
use Rattle.sharded.specs.Passes.{HaveActsOfShards, AreLone, HaveWidth}
use Rattle.sharded.specs.Interleavings.{HasOneMap, AreCallsOfShard, HasInterleaving}
use Rattle.sharded.specs.Closings.{IsClosed, AreClosed}
use Rattle.sharded.proofs.Steps.{get_longer, get_end, same_some}
use Rattle.sharded.proofs.Interleavings.{has_one_map, in_turn, some_order, whole_of_shard}

closed_at : (vs : List Shows) (books : List Contents) → AreClosed vs books → (k : ℕ) (v : Shows) → slice_get vs k ≡ Some v → (book : Contents) × IsClosed v book
closed_at [] [] are k v e = absurd (cc)
closed_at [] (b ∷ books) are k v e = absurd are
closed_at (x ∷ vs) [] are k v e = absurd are
closed_at (x ∷ vs) (b ∷ books) are zero v e = let same : x ≡ v = cc in (b, subst (λ y. IsClosed y b) same are.0)
closed_at (x ∷ vs) (b ∷ books) are (suc k) v e = closed_at vs books are.1 k v e

pub closed_interleaving : (vs : List Shows) (books : List Contents) → HaveActsOfShards vs → AreClosed vs books → HasInterleaving vs
closed_interleaving vs books own are = record { of_shards = of_shards; order = in_turn (length vs) vs; order_is = some_order vs of_shards }
  where
    of_shards : (k : ℕ) (v : Shows) → slice_get vs k ≡ Some v → AreCallsOfShard (length vs) k v.seen
    of_shards k v e = let c = closed_at vs books are k v e in whole_of_shard (length vs) k v (own k v e) c.1.whole c.1.agrees

pub closed_one_map : (w : ℕ) (vs : List Shows) (books : List Contents) → 0 < length vs → AreClosed vs books → HaveWidth w vs → HasOneMap w vs
closed_one_map w vs books some are wide = has_one_map w vs some wide (λ k v e. let c = closed_at vs books are k v e in subst (λ x. IsLegal x v.seen) c.1.width c.1.holds.legal)

-- ---- closed from the last on
pub record ClosedFrom (vs left : List Shows) (books : List Contents) : Type 0 where
  pub more : List Shows
  pub whole : left ++ more ≡ vs
  pub closed : AreClosed more (reverse books)

pub closed_none : (vs : List Shows) (books : List Contents) → books ≡ [] → ClosedFrom vs vs books
closed_none vs books none = record { more = []; whole = append-nil vs; closed = subst (λ b. AreClosed [] (reverse b)) (sym none) tt }

pub closed_more : (vs before left : List Shows) (books later : List Contents) (v : Shows) (book : Contents) → before ≡ left ++ v ∷ [] → later ≡ books ++ book ∷ [] → IsClosed v book → ClosedFrom vs before books → ClosedFrom vs left later
closed_more vs before left books later v book is later_is closed from = record {
  more = v ∷ from.more;
  whole = sym (append_assoc left (v ∷ []) from.more) ∙ ap (λ l. l ++ from.more) (sym is) ∙ from.whole;
  closed = subst (AreClosed (v ∷ from.more)) (sym (reverse-append books (book ∷ [])) ∙ ap reverse (sym later_is)) (closed, from.closed);
}

-- all are closed once no seat is left
pub closed_all : (vs : List Shows) (left : List SeatShows) (books : List Contents) → length left ≡ 0 → ClosedFrom vs (shows_of left) books → AreClosed vs (reverse books)
closed_all vs [] books none from = subst (λ l. AreClosed l (reverse books)) from.whole from.closed
closed_all vs (x ∷ left) books none from = absurd (omega (arith, none))

-- ---- the seats that are left, and the follower that every one of them showed the whole list
pub record SeatsLeft (vs left : List SeatShows) (f g : FollowerState Act) : Type 0 where
  pub rest : List SeatShows
  pub whole : left ++ rest ≡ vs
  pub same : g ≡ f
  pub all : length left < length vs → HasAll f.list f.own
  pub listed : (k : ℕ) (x : SeatShows) → length left ≤ k → slice_get vs k ≡ Some x → acts_at k f.list ≡ x.shows.acts

pub left_all : (vs : List SeatShows) (f : FollowerState Act) → SeatsLeft vs vs f f
left_all vs f = record {
  rest = [];
  whole = append-nil vs;
  same = refl;
  all = λ less. absurd (omega arith);
  listed = λ k x past e. let inside = slice_get_within vs k x e in absurd (omega arith);
}

pub left_at : (vs before left : List SeatShows) (f g : FollowerState Act) (v : SeatShows) → before ≡ left ++ v ∷ [] → SeatsLeft vs before f g → slice_get vs (length left) ≡ Some v
left_at vs before left f g v is from =
    ap (λ l. slice_get l (length left)) (sym from.whole) ∙ ap (λ l. slice_get (l ++ from.rest) (length left)) is ∙ get_longer (left ++ v ∷ []) from.rest (length left) v (get_end left v)

pub left_less : (vs before left : List SeatShows) (f g h : FollowerState Act) (v : SeatShows) → before ≡ left ++ v ∷ [] → SeatsLeft vs before f g → h ≡ g → HasAll g.list g.own → v.shard ≡ length left → acts_at v.shard g.list ≡ v.shows.acts → SeatsLeft vs left f h
left_less vs before left f g h v is from kept has place acts = record {
  rest = v ∷ from.rest;
  whole = sym (append_assoc left (v ∷ []) from.rest) ∙ ap (λ l. l ++ from.rest) (sym is) ∙ from.whole;
  same = kept ∙ from.same;
  all = λ _. subst (λ (x : FollowerState Act). HasAll x.list x.own) from.same has;
  listed = λ k x past e. by k x past e (eqb_tells (length left) k);
}
  where
    by : (k : ℕ) (x : SeatShows) → length left ≤ k → slice_get vs k ≡ Some x → (((length left == k) ≡ true) × (length left ≡ k)) ⊎ (((length left == k) ≡ false) × (length left ≢ k)) → acts_at k f.list ≡ x.shows.acts
    by k x past e (inl (t, same)) =
        let it : v ≡ x = same_some v x (slice_get vs (length left)) (left_at vs before left f g v is from) (ap (slice_get vs) same ∙ e) in
        (λ i. acts_at ((sym same ∙ sym place) i) (sym from.same i).list) ∙ acts ∙ ap (λ (y : SeatShows). y.shows.acts) it
    by k x past e (inr (t, other)) = from.listed k x (let long = ap length is ∙ length-append left (v ∷ []) in omega (arith, past, other, long)) e

-- each seat that was closed showed all that the list has of its shard
pub left_listed : (vs left : List SeatShows) (f g : FollowerState Act) → length left ≡ 0 → SeatsLeft vs left f g → AreAllListed (pass_shows vs f)
left_listed vs left f g none from k x e =
    let found = map_there (λ (s : SeatShows). s.shows) vs k x e in
    from.listed k found.0 (omega arith) found.1 ∙ ap (λ (y : Shows). y.acts) found.2

pub shows_last : (before left : List SeatShows) (v : SeatShows) → before ≡ left ++ v ∷ [] → shows_of before ≡ shows_of left ++ v.shows ∷ []
shows_last before left v is = ap shows_of is ∙ map-append (λ (s : SeatShows). s.shows) left (v ∷ [])

-- the follower has all rooms
pub all_rooms : (vs : List SeatShows) (f : FollowerState Act) → IsPassOf vs f → AreLone (shows_of vs) → f.room ≡ 64
all_rooms [] f pass lone = let none = pass.count in let some = pass.some in absurd (omega arith)
all_rooms (v ∷ vs) f pass lone = sym (pass.each 0 v refl).room ∙ lone 0 v.shows refl
