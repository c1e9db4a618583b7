-- Passes that are split and joined shard by shard.
use Rattle.std.proofs.Common.{◌≡◌, ◌⊎◌, inl, inr, ℕ, zero, suc, ◌<◌, ◌≤◌, List, [], ◌∷◌, ◌++◌, map, take, drop, set, get_or, length, Some, Result, Ok, Err, OnErr, slice_get, refl, ap, sym, subst, ◌∙◌, arith}
use Rattle.std.proofs.lemmas.List.{append-nil}
use mathlib.Core.List.{IsPrefix}
use Rattle.gate.specs.Places.{times}
use Rattle.gate.proofs.Lists.{times-append}
use Rattle.book.specs.Serial.{Act}
use Rattle.shared.specs.Passes.{Which, Shows, ReceiptShows, seen_by}
use Rattle.sharded.specs.Passes.{stores_of, IsActOfShard, HasActsOfShard, HaveActsOfShards, fresh_pass, kept_in_split, given_in_split, IsJoined, AreJoined, IsAccepted, AreAccepted, receipt_stores, HasRoomAgain, HaveRoomAgain, HaveRoom, AreSplitInPart}
use Rattle.sharded.proofs.Steps.{get_longer, some_of}
use Rattle.sharded.proofs.Taken.{length_map, taken_at, taken_length, taken_stores}

-- ---- the first of a list changed
module _ {X : Type 0} where
  abbrev pub mapped : (X → X) → ℕ → List X → List X
  mapped f n xs = map f (take n xs) ++ drop n xs

  pub mapped_at : (f : X → X) (xs : List X) (n : ℕ) (x : X) → n < length xs → x ≡ get_or (mapped f n xs) n x → slice_get xs n ≡ Some x
  mapped_at f [] n x l e = absurd (omega arith)
  mapped_at f (y ∷ xs) zero x l e = ap Some (sym e)
  mapped_at f (y ∷ xs) (suc n) x l e = mapped_at f xs n x (omega arith) e

  pub mapped_next : (f : X → X) (xs : List X) (n : ℕ) (x : X) → slice_get xs n ≡ Some x → set (mapped f n xs) n (f x) ≡ mapped f (suc n) xs
  mapped_next f [] n x e = absurd (cc)
  mapped_next f (y ∷ xs) zero x e = let same : y ≡ x = cc in ap (λ z. f z ∷ xs) (sym same)
  mapped_next f (y ∷ xs) (suc n) x e = ap (λ l. f y ∷ l) (mapped_next f xs n x e)

  pub taken_next : {Y : Type 0} (g : X → Y) (xs : List X) (n : ℕ) (x : X) → slice_get xs n ≡ Some x → map g (take n xs) ++ g x ∷ [] ≡ map g (take (suc n) xs)
  taken_next g [] n x e = absurd (cc)
  taken_next g (y ∷ xs) zero x e = let same : y ≡ x = cc in ap (λ z. g z ∷ []) (sym same)
  taken_next g (y ∷ xs) (suc n) x e = ap (λ l. g y ∷ l) (taken_next g xs n x e)

pub room_next : (vs : List Shows) (n : ℕ) (v : Shows) → slice_get vs n ≡ Some v → 1 ≤ v.room → HaveRoom (take n vs) → HaveRoom (take (suc n) vs)
room_next [] n v e l have = absurd (cc)
room_next (x ∷ vs) zero v e l have = let same : x ≡ v = cc in (subst (λ (y : Shows). 1 ≤ y.room) (sym same) l, tt)
room_next (x ∷ vs) (suc n) v e l have = (have.0, room_next vs n v e l have.1)

-- ---- own acts stay at their shards
-- what stood in a shorter list stands in the longer
stands : (count k : ℕ) (v w : Shows) → HasActsOfShard count k v → IsPrefix v.acts w.acts → ((p : ℕ) → 1 ≤ times p w.did → 1 ≤ times p v.did) → HasActsOfShard count k w
stands count k v w homed longer less p l =
    let had = homed p (less p l) in
    (had.0, ap (λ acts. slice_get acts p) (sym longer.1) ∙ get_longer v.acts longer.0 p had.0 had.1, had.2)

joined_one : (count k : ℕ) (v o w : Shows) → HasActsOfShard count k v → HasActsOfShard count k o → IsJoined v o w → HasActsOfShard count k w
joined_one count k v o w one other joined p l = by (some_of (times p v.did) (times p o.did) (subst (λ n. 1 ≤ n) (ap (times p) joined.did ∙ times-append p v.did o.did) l))
  where
    by : (1 ≤ times p v.did) ⊎ (1 ≤ times p o.did) → (act : Act) × (slice_get w.acts p ≡ Some act) × IsActOfShard count k act
    by (inl m) =
        let had = one p m in
        (had.0, ap (λ acts. slice_get acts p) (sym joined.acts.0.1) ∙ get_longer v.acts joined.acts.0.0 p had.0 had.1, had.2)
    by (inr m) =
        let had = other p m in
        (had.0, ap (λ acts. slice_get acts p) (sym joined.acts.1.1) ∙ get_longer o.acts joined.acts.1.0 p had.0 had.1, had.2)

pub joined_of_shards : (vs os ws : List Shows) → length os ≡ length vs → HaveActsOfShards vs → HaveActsOfShards os → AreJoined vs os ws → HaveActsOfShards ws
joined_of_shards vs os ws long one other are k w e = subst (λ n. HasActsOfShard n k w) (sym (taken_length (λ (x : Shows). x.store) IsJoined vs os ws are)) (by found.2)
  where
    found : (v : Shows) × (slice_get vs k ≡ Some v) × ((w ≡ v) ⊎ ((o : Shows) × (slice_get os k ≡ Some o) × IsJoined v o w))
    found = taken_at (λ (x : Shows). x.store) IsJoined vs os ws are k w e

    by : (w ≡ found.0) ⊎ ((o : Shows) × (slice_get os k ≡ Some o) × IsJoined found.0 o w) → HasActsOfShard (length vs) k w
    by (inl same) = subst (HasActsOfShard (length vs) k) (sym same) (one k found.0 found.1)
    by (inr (o, there, joined)) = joined_one (length vs) k found.0 o w (one k found.0 found.1) (subst (λ n. HasActsOfShard n k o) long (other k o there)) joined

pub accepted_of_shards : (vs : List Shows) (rs : List ReceiptShows) (ws : List Shows) → HaveActsOfShards vs → AreAccepted vs rs ws → HaveActsOfShards ws
accepted_of_shards vs rs ws homed are k w e = subst (λ n. HasActsOfShard n k w) (sym (taken_length (λ (x : Shows). x.store) IsAccepted vs rs ws are)) (by found.2)
  where
    found : (v : Shows) × (slice_get vs k ≡ Some v) × ((w ≡ v) ⊎ ((r : ReceiptShows) × (slice_get rs k ≡ Some r) × IsAccepted v r w))
    found = taken_at (λ (x : Shows). x.store) IsAccepted vs rs ws are k w e

    by : (w ≡ found.0) ⊎ ((r : ReceiptShows) × (slice_get rs k ≡ Some r) × IsAccepted found.0 r w) → HasActsOfShard (length vs) k w
    by (inl same) = subst (HasActsOfShard (length vs) k) (sym same) (homed k found.0 found.1)
    by (inr (r, there, accepted)) = stands (length vs) k found.0 w (homed k found.0 found.1) accepted.acts.0 (λ p l. subst (λ (x : Shows). 1 ≤ times p x.did) accepted.kept l)

map_at : {X Y : Type 0} (f : X → Y) (xs : List X) (k : ℕ) (y : Y) → slice_get (map f xs) k ≡ Some y → (x : X) × (slice_get xs k ≡ Some x) × (f x ≡ y)
map_at f [] k y e = absurd (cc)
map_at f (x ∷ xs) zero y e = let same : f x ≡ y = cc in (x, refl, same)
map_at f (x ∷ xs) (suc k) y e = map_at f xs k y e

pub kept_of_shards : (vs : List Shows) → HaveActsOfShards vs → HaveActsOfShards (map kept_in_split vs)
kept_of_shards vs homed k w e =
    let found = map_at kept_in_split vs k w e in
    subst (λ n. HasActsOfShard n k w) (sym (length_map kept_in_split vs)) (subst (HasActsOfShard (length vs) k) found.2 (homed k found.0 found.1))

pub given_of_shards : (who : ℕ) (vs : List Shows) → HaveActsOfShards (map (given_in_split who) vs)
given_of_shards who vs k w e p l =
    let found = map_at (given_in_split who) vs k w e in
    let none : times p w.did ≡ 0 = ap (λ (v : Shows). times p v.did) (sym found.2) in absurd (omega arith)

-- ---- a split that is taken restored_first
restored_one : (who : ℕ) (v w : Shows) → 1 ≤ v.room → IsJoined (kept_in_split v) (given_in_split who v) w → HasRoomAgain v w
restored_one who v w some joined = record {
  stays = (joined.store, joined.who, joined.room ∙ omega arith);
  seen = by_seen joined.one;
  trimmed = by_trimmed joined.one;
  made = joined.made ∙ append-nil v.made;
  did = joined.did ∙ append-nil v.did;
  acts = joined.acts.0;
}
  where
    by_seen : ((w.seen ≡ v.seen) × (w.trimmed ≡ v.trimmed)) ⊎ ((w.seen ≡ v.seen) × (w.trimmed ≡ v.trimmed)) → w.seen ≡ v.seen
    by_seen (inl e) = e.0
    by_seen (inr e) = e.0

    by_trimmed : ((w.seen ≡ v.seen) × (w.trimmed ≡ v.trimmed)) ⊎ ((w.seen ≡ v.seen) × (w.trimmed ≡ v.trimmed)) → w.trimmed ≡ v.trimmed
    by_trimmed (inl e) = e.1
    by_trimmed (inr e) = e.1

restored_same : (v : Shows) → HasRoomAgain v v
restored_same v = record { stays = (refl, refl, refl); seen = refl; trimmed = refl; made = refl; did = refl; acts = ([], append-nil v.acts) }

pub restored_all : (vs : List Shows) → HaveRoomAgain vs vs
restored_all [] = tt
restored_all (v ∷ vs) = (restored_same v, restored_all vs)

restored_first : (who n : ℕ) (vs ws : List Shows) → HaveRoom (take n vs) → AreJoined (mapped kept_in_split n vs) (map (given_in_split who) (take n vs)) ws → HaveRoomAgain vs ws
restored_first who zero [] ws some are = subst (HaveRoomAgain []) (sym are) tt
restored_first who zero (v ∷ vs) [] some are = absurd are
restored_first who zero (v ∷ vs) (w ∷ ws) some are = (subst (HasRoomAgain v) (sym are.0) (restored_same v), restored_first who zero vs ws tt are.1)
restored_first who (suc n) [] ws some are = subst (HaveRoomAgain []) (sym are) tt
restored_first who (suc n) (v ∷ vs) [] some are = absurd are
restored_first who (suc n) (v ∷ vs) (w ∷ ws) some are = (restored_one who v w some.0 are.0, restored_first who n vs ws some.1 are.1)

pub restored : (who : ℕ) (vs ps given ws : List Shows) → AreSplitInPart who vs ps given → AreJoined ps given ws → HaveRoomAgain vs ws
restored who vs ps given ws split are =
    restored_first who split.0 vs ws split.3 (subst (λ g. AreJoined (mapped kept_in_split split.0 vs) g ws) split.2 (subst (λ p. AreJoined p given ws) split.1 are))

restored_at : (vs ws : List Shows) → HaveRoomAgain vs ws → (k : ℕ) (w : Shows) → slice_get ws k ≡ Some w → (v : Shows) × (slice_get vs k ≡ Some v) × HasRoomAgain v w
restored_at [] [] are k w e = absurd (cc)
restored_at [] (x ∷ ws) are k w e = absurd are
restored_at (v ∷ vs) [] are k w e = absurd are
restored_at (v ∷ vs) (x ∷ ws) are zero w e = let same : x ≡ w = cc in (v, refl, subst (HasRoomAgain v) same are.0)
restored_at (v ∷ vs) (x ∷ ws) are (suc k) w e = restored_at vs ws are.1 k w e

restored_length : (vs ws : List Shows) → HaveRoomAgain vs ws → length ws ≡ length vs
restored_length [] [] are = refl
restored_length [] (x ∷ ws) are = absurd are
restored_length (v ∷ vs) [] are = absurd are
restored_length (v ∷ vs) (x ∷ ws) are = ap suc (restored_length vs ws are.1)

pub restored_of_shards : (vs ws : List Shows) → HaveActsOfShards vs → HaveRoomAgain vs ws → HaveActsOfShards ws
restored_of_shards vs ws homed are k w e =
    let found = restored_at vs ws are k w e in
    subst (λ n. HasActsOfShard n k w) (sym (restored_length vs ws are))
    (stands (length vs) k found.0 w (homed k found.0 found.1) found.2.acts (λ p l. subst (λ d. 1 ≤ times p d) found.2.did l))

-- ---- as the code knows it
-- a pass was split
pub on_err : {A E : Type 0} (r : Result A E) (P : Type 0) → P → OnErr r P
on_err (Ok a) P p = tt
on_err (Err e) P p = p

mapped_stores : (n : ℕ) (vs : List Shows) → stores_of (mapped kept_in_split n vs) ≡ stores_of vs
mapped_stores zero vs = refl
mapped_stores (suc n) [] = refl
mapped_stores (suc n) (v ∷ vs) = ap (λ l. v.store ∷ l) (mapped_stores n vs)

given_stores : (who n : ℕ) (vs : List Shows) → IsPrefix (stores_of (map (given_in_split who) (take n vs))) (stores_of vs)
given_stores who zero vs = (stores_of vs, refl)
given_stores who (suc n) [] = ([], refl)
given_stores who (suc n) (v ∷ vs) = let rest = given_stores who n vs in (rest.0, ap (λ l. v.store ∷ l) rest.1)

pub split_stores : (who : ℕ) (vs ws given : List Shows) (ss : List Which) → stores_of vs ≡ ss → AreSplitInPart who vs ws given → (stores_of ws ≡ ss) × IsPrefix (stores_of given) ss
split_stores who vs ws given ss e split = (
  ap stores_of split.1 ∙ mapped_stores split.0 vs ∙ e,
  subst (λ g. IsPrefix (stores_of g) ss) (sym split.2) (subst (IsPrefix (stores_of (map (given_in_split who) (take split.0 vs)))) e (given_stores who split.0 vs)),
)

pub fresh_of_shards : (ss : List Which) → HaveActsOfShards (map fresh_pass ss)
fresh_of_shards ss k w e p l =
    let found = map_at fresh_pass ss k w e in
    let none : times p w.did ≡ 0 = ap (λ (v : Shows). times p v.did) (sym found.2) in absurd (omega arith)

pub kept_stores : (vs : List Shows) → stores_of (map kept_in_split vs) ≡ stores_of vs
kept_stores [] = refl
kept_stores (v ∷ vs) = ap (λ l. v.store ∷ l) (kept_stores vs)

pub given_all_stores : (who : ℕ) (vs : List Shows) → stores_of (map (given_in_split who) vs) ≡ stores_of vs
given_all_stores who [] = refl
given_all_stores who (v ∷ vs) = ap (λ l. v.store ∷ l) (given_all_stores who vs)

pub restored_stores : (vs ws : List Shows) → HaveRoomAgain vs ws → stores_of ws ≡ stores_of vs
restored_stores [] [] are = refl
restored_stores [] (w ∷ ws) are = absurd are
restored_stores (v ∷ vs) [] are = absurd are
restored_stores (v ∷ vs) (w ∷ ws) are = (λ i. are.0.stays.0 i ∷ restored_stores vs ws are.1 i)

pub joined_stores : (vs os ws : List Shows) → AreJoined vs os ws → stores_of ws ≡ stores_of vs
joined_stores vs os ws are = taken_stores (λ (x : Shows). x.store) IsJoined (λ v o w joined. joined.store) vs os ws are

pub accepted_stores : (vs : List Shows) (rs : List ReceiptShows) (ws : List Shows) → AreAccepted vs rs ws → stores_of ws ≡ stores_of vs
accepted_stores vs rs ws are = taken_stores (λ (x : Shows). x.store) IsAccepted (λ v r w accepted. ap (λ (x : Shows). x.store) accepted.kept) vs rs ws are

pub seen_stores : (vs : List Shows) → receipt_stores (map seen_by vs) ≡ stores_of vs
seen_stores [] = refl
seen_stores (v ∷ vs) = ap (λ l. v.store ∷ l) (seen_stores vs)

pub fresh_stores : (ss : List Which) → stores_of (map fresh_pass ss) ≡ ss
fresh_stores [] = refl
fresh_stores (s ∷ ss) = ap (λ l. s ∷ l) (fresh_stores ss)

pub stores_length : (vs : List Shows) (ss : List Which) → stores_of vs ≡ ss → length vs ≡ length ss
stores_length vs ss e = sym (length_map (λ (v : Shows). v.store) vs) ∙ ap length e
