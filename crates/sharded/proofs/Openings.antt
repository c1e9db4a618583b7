-- A store that is opened, from the last shard on.
use Rattle.std.proofs.Common.{◌≡◌, ℕ, zero, suc, ◌+◌, ◌<◌, List, [], ◌∷◌, ◌++◌, map, reverse, length, All, Some, slice_get, slice_index_or, refl, ap, sym, subst, ◌∙◌, arith, length-append}
use Rattle.std.proofs.lemmas.List.{reverse-append}
use Rattle.std.proofs.lemmas.List.Elements.{All-cons}
use Rattle.std.proofs.lemmas.Option.{slice_get_within}
use Rattle.book.specs.Serial.{Act}
use Rattle.ledger.specs.Acts.{TableId, LedgerState, KeeperState, FollowerState, new_keepers}
use Rattle.shared.specs.Passes.{Which, Shows, IsConsistent}
use Rattle.shard.specs.Seats.{SeatShows}
use Rattle.sharded.specs.Passes.{fresh_pass, HaveActsOfShards}
use Rattle.sharded.specs.Seats.{shows_of, IsPassOf, AreOpened}
use Rattle.sharded.proofs.Passes.{fresh_of_shards}

snoc_same : {X : Type 0} (xs ys : List X) (x y : X) → xs ++ x ∷ [] ≡ ys ++ y ∷ [] → (xs ≡ ys) × (x ≡ y)
snoc_same [] [] x y e = (refl, cc)
snoc_same [] (b ∷ ys) x y e = let tail : [] ≡ ys ++ y ∷ [] = cc in absurd (no_snoc ys y tail)
  where
    no_snoc : {X : Type 0} (ys : List X) (y : X) → [] ≡ ys ++ y ∷ [] → ⊥
    no_snoc [] y e = cc
    no_snoc (b ∷ ys) y e = cc
snoc_same (a ∷ xs) [] x y e = let tail : xs ++ x ∷ [] ≡ [] = cc in absurd (no_snoc xs x tail)
  where
    no_snoc : {X : Type 0} (ys : List X) (y : X) → ys ++ y ∷ [] ≡ [] → ⊥
    no_snoc [] y e = cc
    no_snoc (b ∷ ys) y e = cc
snoc_same (a ∷ xs) (b ∷ ys) x y e =
    let head : a ≡ b = cc in let tail : xs ++ x ∷ [] ≡ ys ++ y ∷ [] = cc in
    let more = snoc_same xs ys x y tail in
    ((λ i. head i ∷ more.0 i), more.1)

-- the keeper that is taken from the end is that of the shard before those that are open
pub keepers_last : (id : TableId) (before left : List (KeeperState Act)) (k : KeeperState Act) → before ≡ new_keepers id (length before) → before ≡ left ++ k ∷ []
    → (left ≡ new_keepers id (length left)) × (k ≡ record { ledger = id; shard = length left; acts = [] }) × (length before ≡ suc (length left))
keepers_last id before left k are is =
    let long : length before ≡ suc (length left) = ap length is ∙ length-append left (k ∷ []) ∙ omega arith in
    let both = snoc_same left (new_keepers id (length left)) k (record { ledger = id; shard = length left; acts = [] }) (sym is ∙ are ∙ ap (λ (n : ℕ). new_keepers id n) long) in
    (both.0, both.1, long)

pub keepers_many : (id : TableId) (n : ℕ) → length (new_keepers {A = Act} id n) ≡ n
keepers_many id zero = refl
keepers_many id (suc n) = length-append (new_keepers id n) (record { ledger = id; shard = n; acts = [] } ∷ []) ∙ (let rest = keepers_many id n in omega arith)

-- one shard more
pub opened_more : (id : TableId) (n : ℕ) (ss later : List Which) (vs more : List SeatShows) (s : Which) (v : SeatShows) → later ≡ ss ++ s ∷ [] → more ≡ vs ++ v ∷ [] → v.shows ≡ fresh_pass s → v.ledger ≡ Some id → v.shard ≡ n
    → AreOpened id (suc n) (reverse ss) (reverse vs) → AreOpened id n (reverse later) (reverse more)
opened_more id n ss later vs more s v is are shows ledger shard opened =
    subst (λ (u : List Which × List SeatShows). AreOpened id n u.0 u.1) (λ i. (sym (ap reverse is ∙ reverse-append ss (s ∷ [])) i, sym (ap reverse are ∙ reverse-append vs (v ∷ [])) i)) (shows, ledger, shard, opened)

pub all_more : (P : Which → Type 0) (ss later : List Which) (s : Which) → later ≡ ss ++ s ∷ [] → P s → All P (reverse ss) → All P (reverse later)
all_more P ss later s is here all = subst (All P) (sym (ap reverse is ∙ reverse-append ss (s ∷ []))) (All-cons P s (reverse ss) here all)

pub opened_shows : (id : TableId) (k : ℕ) (ss : List Which) (vs : List SeatShows) → AreOpened id k ss vs → shows_of vs ≡ map fresh_pass ss
opened_shows id k [] [] opened = refl
opened_shows id k [] (v ∷ vs) opened = absurd opened
opened_shows id k (s ∷ ss) [] opened = absurd opened
opened_shows id k (s ∷ ss) (v ∷ vs) opened = λ i. opened.0 i ∷ opened_shows id (suc k) ss vs opened.3 i

opened_length : (id : TableId) (k : ℕ) (ss : List Which) (vs : List SeatShows) → AreOpened id k ss vs → length vs ≡ length ss
opened_length id k [] [] opened = refl
opened_length id k [] (v ∷ vs) opened = absurd opened
opened_length id k (s ∷ ss) [] opened = absurd opened
opened_length id k (s ∷ ss) (v ∷ vs) opened = ap suc (opened_length id (suc k) ss vs opened.3)

-- each of them
opened_at : (id : TableId) (k : ℕ) (ss : List Which) (vs : List SeatShows) → AreOpened id k ss vs → (j : ℕ) (v : SeatShows) → slice_get vs j ≡ Some v → (s : Which) × (slice_get ss j ≡ Some s) × (v.shows ≡ fresh_pass s) × (v.ledger ≡ Some id) × (v.shard ≡ k + j)
opened_at id k [] [] opened j v e = absurd (cc)
opened_at id k [] (x ∷ vs) opened j v e = absurd opened
opened_at id k (s ∷ ss) [] opened j v e = absurd opened
opened_at id k (s ∷ ss) (x ∷ vs) opened zero v e =
    let same : x ≡ v = cc in
    let is = subst (λ (y : SeatShows). (y.shows ≡ fresh_pass s) × (y.ledger ≡ Some id) × (y.shard ≡ k + 0)) same (opened.0, opened.1, (let at = opened.2 in omega arith)) in
    (s, refl, is.0, is.1, is.2)
opened_at id k (s ∷ ss) (x ∷ vs) opened (suc j) v e =
    let found = opened_at id (suc k) ss vs opened.3 j v e in
    (found.0, found.1, found.2, found.3, (let at = found.4 in omega arith))

index_there : (ss : List Which) (j : ℕ) (s : Which) → slice_get ss j ≡ Some s → slice_index_or ss j s ≡ s
index_there [] j s e = absurd (cc)
index_there (x ∷ ss) zero s e = cc
index_there (x ∷ ss) (suc j) s e = index_there ss j s e

pub all_at : (P : Which → Type 0) (ss : List Which) (j : ℕ) (s : Which) → All P ss → slice_get ss j ≡ Some s → P s
all_at P ss j s all e = subst P (index_there ss j s e) (all j s (slice_get_within ss j s e))

pub opened_pass : (w limit : ℕ) (ss : List Which) (vs : List SeatShows) (l : LedgerState) (f : FollowerState Act) → AreOpened l.table 0 ss vs → f ≡ record { ledger = l; list = []; own = []; room = 64 } → length ss ≡ l.setup.count → 0 < l.setup.count → l.setup.about ≡ w
    → All (λ (s : Which). (s.width ≡ w) × (s.limit ≡ limit)) ss → IsPassOf vs f
opened_pass w limit ss vs l f opened is count some about all = subst (IsPassOf vs) (sym is) (record {
  count = opened_length l.table 0 ss vs opened ∙ count;
  some = some;
  each = λ j v e. let found = opened_at l.table 0 ss vs opened j v e in record {
    of = record {
      ledger_is = found.3;
      width = ap (λ (x : Shows). x.store.width) found.2 ∙ (all_at (λ (s : Which). (s.width ≡ w) × (s.limit ≡ limit)) ss j found.0 all found.1).0 ∙ sym about;
      some = some;
    };
    shard = found.4 ∙ omega arith;
    room = ap (λ (x : Shows). x.room) found.2;
    begins = ([], ap (λ (x : Shows). x.acts ++ []) found.2);
    agrees = subst IsConsistent (sym found.2) (record { seen_is = refl; trimmed_is = refl; made_is = refl; room = omega arith });
  };
  one_map = tt;
  homed = subst HaveActsOfShards (sym (opened_shows l.table 0 ss vs opened)) (fresh_of_shards ss);
})
