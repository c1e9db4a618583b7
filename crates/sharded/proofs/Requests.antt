-- What is known of prepared calls, and of puts that were refused.
use Rattle.std.proofs.Common.{◌≡◌, ◌⊎◌, ℕ, zero, suc, ◌<◌, ◌≤◌, List, [], ◌∷◌, length, All, Some, Err, slice_get, slice_set, refl, ap, sym, subst, ◌∙◌, arith}
use Rattle.std.proofs.lemmas.List.{length-map}
use Rattle.lrc_code.specs.declared.Code.{Code}
use Rattle.sealed.specs.declared.fault.Fault.{Fault}
use Rattle.sealed.specs.declared.fault.Fault.TheVariants.{NoMemory, TooLong}
use Rattle.sealed.specs.Layout.{stripe_count}
use Rattle.history.specs.Step.{put}
use Rattle.history.specs.History.{History}
use Rattle.book.specs.Known.{IsFragmentIn}
use Rattle.one_map.specs.Hash.{shard_of}
use Rattle.one_map.proofs.Hash.{shard_below_count}
use Rattle.requests.specs.declared.request.Request.{Request}
use Rattle.requests.specs.declared.request.Request.TheVariants.{Put, Install, Restore}
use Rattle.shared.specs.Passes.{Which, Shows}
use Rattle.requests.specs.Requests.{operation_of}
use Rattle.shared.specs.Requests.{CanAsk}
use Rattle.shared.proofs.Requests.{refused_put}
use Rattle.named_calls.specs.Asked.{CanAskIn, request_name}
use Rattle.one_map.specs.OneMap.{operation_shard}
use Rattle.shard.proofs.Visits.{nothing_listed, refused_acts}
use Rattle.sharded.specs.Passes.{StoreShows, PassShows, stores_of, store_of, AreConsistent}
use Rattle.sharded.specs.Steps.{IsCallAt, width_at, width_for, seen_at, seen_for}
use Rattle.sharded.specs.Listings.{who_at, shown_at, listing, IsListedCall}
use Rattle.sharded.proofs.Steps.{width_there}
use Rattle.sharded.proofs.Openings.{all_at}

-- a caller with these passes can ask it of the shard of its name
abbrev CanAskAt : List Shows → Request → Type 0
CanAskAt vs request = (v : Shows) → slice_get vs (operation_shard (length vs) (operation_of request)) ≡ Some v → CanAsk v request

there_is : {X : Type 0} (xs : List X) (k : ℕ) → k < length xs → (x : X) × (slice_get xs k ≡ Some x)
there_is [] k l = absurd (omega arith)
there_is (x ∷ xs) zero l = (x, refl)
there_is (x ∷ xs) (suc k) l = there_is xs k (omega arith)

set_same : {X : Type 0} (xs : List X) (k : ℕ) (x : X) → slice_get xs k ≡ Some x → xs ≡ slice_set xs k x
set_same [] k x e = refl
set_same (y ∷ xs) zero x e = let same : y ≡ x = cc in ap (λ z. z ∷ xs) same
set_same (y ∷ xs) (suc k) x e = ap (λ l. y ∷ l) (set_same xs k x e)

stores_there : (vs : List Shows) (k : ℕ) (v : Shows) → slice_get vs k ≡ Some v → slice_get (stores_of vs) k ≡ Some v.store
stores_there [] k v e = absurd (cc)
stores_there (x ∷ vs) zero v e = let same : x ≡ v = cc in ap (λ (y : Shows). Some y.store) same
stores_there (x ∷ vs) (suc k) v e = stores_there vs k v e

-- ---- the width of all shards
-- the shard of a name has it
pub wide_for : (w : ℕ) (ss : List Which) (n : List ℕ) → All (λ (s : Which). s.width ≡ w) ss → 1 ≤ length ss → width_for ss n ≡ w
wide_for w ss n all some =
    let k = shard_of (length ss) n in
    let found = there_is ss k (shard_below_count (length ss) n some) in
    sym (width_there ss k found.0 found.1) ∙ all_at (λ (s : Which). s.width ≡ w) ss k found.0 all found.1

-- ---- a put that was refused before it entered
named_width : (vs : List Shows) (ss : List Which) (n : List ℕ) (v : Shows) → stores_of vs ≡ ss → slice_get vs (shard_of (length vs) n) ≡ Some v → width_for ss n ≡ v.store.width
named_width vs ss n v same there =
    let many : length (stores_of vs) ≡ length vs = length-map vs (λ (x : Shows). x.store) in
    subst (λ (l : List Which). width_for l n ≡ v.store.width) same
    (ap (λ m. width_at (stores_of vs) (shard_of m n)) many ∙ sym (width_there (stores_of vs) (shard_of (length vs) n) v.store (stores_there vs (shard_of (length vs) n) v there)))

pub refused_call : (v : PassShows) (store : StoreShows) (n : List ℕ) (code : Code) (b : List ℕ) (f : Fault) → store_of v ≡ store → AreConsistent v.shards → 0 < length v.shards → (f ≡ NoMemory) ⊎ (f ≡ TooLong)
    → (f ≡ TooLong → 4096 < stripe_count code (width_for store.shards n) (length b)) → IsCallAt v.shards (put n code b) (Err f) v.shards
refused_call v store n code b f same agrees some is long =
    let k = shard_of (length v.shards) n in
    let found = there_is v.shards k (shard_below_count (length v.shards) n some) in
    let width = named_width v.shards store.shards n found.0 (ap (λ (s : StoreShows). s.shards) same) found.1 in
    record {
      old = found.0;
      new = found.0;
      there = found.1;
      only = set_same v.shards k found.0 found.1;
      does = refused_put found.0 n code b (width_for store.shards n) f (agrees k found.0 found.1) width is long;
    }

pub refused_listed : (v : PassShows) (n : List ℕ) (code : Code) (b : List ℕ) (f : Fault) → (f ≡ NoMemory) ⊎ (f ≡ TooLong) → IsListedCall v (put n code b) (Err f) v
refused_listed v n code b f is =
    let k = shard_of (length v.shards) n in
    nothing_listed k _ (shown_at v.shards k) (shown_at v.shards k) (listing v) (refused_acts (who_at v.shards k) (put n code b) (Err f) f refl is) refl

-- ---- a fragment that is known
-- what the pass to the shard of the name has seen
pub seen_named : (vs : List Shows) (k : ℕ) (v : Shows) → slice_get vs k ≡ Some v → seen_at vs k ≡ v.seen
seen_named [] k v e = absurd (cc)
seen_named (x ∷ vs) zero v e = let same : x ≡ v = cc in ap (λ (y : Shows). y.seen) same
seen_named (x ∷ vs) (suc k) v e = seen_named vs k v e

-- who knows the fragment knows it at the shard of the name
known_at : (v : PassShows) (store : StoreShows) (n : List ℕ) (version j f : ℕ) (bytes : List ℕ) → store_of v ≡ store → IsFragmentIn (seen_for v.shards n) (width_for store.shards n) n version j f bytes
    → (u : Shows) → slice_get v.shards (shard_of (length v.shards) n) ≡ Some u → IsFragmentIn u.seen u.store.width n version j f bytes
known_at v store n version j f bytes same known shown there =
    let width = named_width v.shards store.shards n shown (ap (λ (s : StoreShows). s.shards) same) there in
    subst (λ (u : History × ℕ). IsFragmentIn u.0 u.1 n version j f bytes) (λ i. (seen_named v.shards (shard_of (length v.shards) n) shown there i, width i)) known

-- what can be asked of the store, by what was seen for the name, can be asked at the shard of the name
pub can_at : (v : PassShows) (store : StoreShows) (request : Request) → store_of v ≡ store → CanAskIn (seen_for v.shards (request_name request)) (width_for store.shards (request_name request)) request → CanAskAt v.shards request
can_at v store (Put alloc n s) same can shown there = (can.0 ∙ named_width v.shards store.shards n shown (ap (λ (s : StoreShows). s.shards) same) there, can.1)
can_at v store (Install alloc n version j f bytes) same can shown there = known_at v store n version j f bytes same can shown there
can_at v store (Restore alloc n version j f bytes) same can shown there = known_at v store n version j f bytes same can shown there
can_at v store request same can shown there = tt
