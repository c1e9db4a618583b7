-- The metadata after a call.
use Rattle.std.proofs.Common.{◌≡◌, ℕ, ◌+◌, ◌-◌, Bool, true, false, not, ◌&&◌, ◌||◌, List, [], Option, None, Some, cond, length, replicate, refl, sym, ap, ◌∙◌, subst, arith, rules}
use Rattle.std.specs.Prelude.{IfSome, IsSome}
use Rattle.std.specs.Option.{option_map}
use Rattle.std.specs.List.{list_any}
use Rattle.std.specs.Map.{lookup}
use Rattle.std.specs.BTreeMap.{BTreeMap, get, is_at}
use Rattle.std.specs.BTreeSet as tree
use Rattle.std.specs.Ordering.{eq_by_cmp}
use Rattle.std.specs.Cmp.Lexicographic.{nat_list_cmp_total}
use Rattle.std.proofs.lemmas.Cmp.{eq_by_cmp_equiv}
use Rattle.std.proofs.lemmas.List.{length-replicate}
use Rattle.sealed.specs.Blob.{pair_cmp}
use Rattle.history.specs.Names.{name_cmp}
use Rattle.history.specs.Views.{View, Views, added, taken, changed, view_after, call_operation, next_views}
use Rattle.history.specs.Metadata.{lost_of, seen_as, PairsRise}
use Rattle.history.specs.Step.{Operation}
use Rattle.history.specs.declared.note.Call.{Call}
use Rattle.history.specs.declared.note.Call.TheVariants.{Delete}
use Rattle.history.specs.declared.note.Entry.{Entry}
use Rattle.history.specs.declared.note.Note.TheVariants as note
use Rattle.history.specs.declared.metadata.BlobMetadata.{BlobMetadata}
use Rattle.history.specs.declared.note.Note.{Note}
use Rattle.history.proofs.Catalogue.{option_map_put}
use Rattle.sealed.proofs.Changing.{pairs_total}

-- the views of a list of names
abbrev pub seen_in : List (List ℕ × BlobMetadata) → List ℕ → Option View
seen_in names n = option_map seen_as (lookup (is_at (name_cmp n)) names)

-- a map's test of a key is the order's
pub at_is : (n q : List ℕ) → is_at (name_cmp n) q ≡ eq_by_cmp name_cmp q n
at_is n q = sym ((eq_by_cmp_equiv nat_list_cmp_total).symm q n)

-- what names show after one has another blob
pub shown : (old new : List (List ℕ × BlobMetadata)) (n : List ℕ) (kept : BlobMetadata) (x : View)
    → ((q : List ℕ) → lookup (is_at (name_cmp q)) new ≡ cond (is_at (name_cmp n) q) (Some kept) (lookup (is_at (name_cmp q)) old)) → seen_as kept ≡ x
    → (q : List ℕ) → seen_in new q ≡ cond (eq_by_cmp name_cmp q n) (Some x) (seen_in old q)
shown old new n kept x updates same q =
    option_map_put seen_as (is_at (name_cmp n) q) kept x (lookup (is_at (name_cmp q)) old) (lookup (is_at (name_cmp q)) new) (seen_in old q) (updates q) same refl
    ∙ ap (λ t. cond t (Some x) (seen_in old q)) (at_is n q)

map_none : (b : Bool) (found : Option BlobMetadata) → option_map seen_as (cond b None found) ≡ cond b None (option_map seen_as found)
map_none true found = refl
map_none false found = refl

-- and after one is gone
pub hidden : (old new : List (List ℕ × BlobMetadata)) (n : List ℕ)
    → ((q : List ℕ) → lookup (is_at (name_cmp q)) new ≡ cond (is_at (name_cmp n) q) None (lookup (is_at (name_cmp q)) old))
    → (q : List ℕ) → seen_in new q ≡ cond (eq_by_cmp name_cmp q n) None (seen_in old q)
hidden old new n updates q =
    ap (option_map seen_as) (updates q) ∙ map_none (is_at (name_cmp n) q) (lookup (is_at (name_cmp q)) old)
    ∙ ap (λ t. cond t None (seen_in old q)) (at_is n q)

pub is_there : (found : Option BlobMetadata) (k : BlobMetadata) → Some k ≡ found → IsSome found
is_there found k e = search rules

-- ---- the lost fragments of a blob
true_or : (b c : Bool) → cond b true c ≡ (b || c)
true_or true c = refl
true_or false c = refl

false_or : (b c : Bool) → cond b false c ≡ (not b && c)
false_or true c = refl
false_or false c = refl

one_more : (lost : Bool) (n m : ℕ) → m ≡ n + cond (not lost) 1 0 → m ≡ cond lost n (n + 1)
one_more true n m e = omega arith
one_more false n m e = e

one_less : (lost : Bool) (n m : ℕ) → m + cond lost 1 0 ≡ n → m ≡ cond lost (n - 1) n
one_less true n m e = omega arith
one_less false n m e = omega arith

pair_at : (j f a b : ℕ) → is_at (pair_cmp (j, f)) (a, b) ≡ eq_by_cmp pair_cmp (a, b) (j, f)
pair_at j f a b = sym ((eq_by_cmp_equiv pairs_total).symm (a, b) (j, f))

pub with_pair : (k : BlobMetadata) (s : tree.BTreeSet (ℕ × ℕ)) (j f : ℕ) (new : Bool) → tree.Updates pair_cmp k.lost s (j, f) true
    → new ≡ not (tree.contains pair_cmp k.lost (j, f)) → tree.btree_set_len s ≡ tree.btree_set_len k.lost + cond new 1 0
    → seen_as (record k { lost = s }) ≡ added j f (seen_as k)
with_pair k s j f new updates is len =
    λ i. record {
      version = k.version;
      len = k.len;
      code = k.code;
      lost = λ a b. (updates.0 (a, b) ∙ true_or (is_at (pair_cmp (j, f)) (a, b)) (lost_of k a b) ∙ ap (λ t. t || lost_of k a b) (pair_at j f a b)) i;
      count = one_more (lost_of k j f) (tree.btree_set_len k.lost) (tree.btree_set_len s) (len ∙ ap (λ t. tree.btree_set_len k.lost + cond t 1 0) is) i;
    }

pub without_pair : (k : BlobMetadata) (s : tree.BTreeSet (ℕ × ℕ)) (j f : ℕ) (old : Bool) → tree.Updates pair_cmp k.lost s (j, f) false
    → old ≡ tree.contains pair_cmp k.lost (j, f) → tree.btree_set_len s + cond old 1 0 ≡ tree.btree_set_len k.lost
    → seen_as (record k { lost = s }) ≡ taken j f (seen_as k)
without_pair k s j f old updates is len =
    λ i. record {
      version = k.version;
      len = k.len;
      code = k.code;
      lost = λ a b. (updates.0 (a, b) ∙ false_or (is_at (pair_cmp (j, f)) (a, b)) (lost_of k a b) ∙ ap (λ t. not t && lost_of k a b) (pair_at j f a b)) i;
      count = one_less (lost_of k j f) (tree.btree_set_len k.lost) (tree.btree_set_len s) (ap (λ t. tree.btree_set_len s + cond t 1 0) (sym is) ∙ len) i;
    }

-- a new blob has nothing lost
abbrev pub fresh_of : BlobMetadata → View
fresh_of k = record { version = k.version; len = length (replicate {A = ℕ} k.len 0); code = k.code; lost = λ j f. false; count = 0 }

pub fresh : (k : BlobMetadata) → k.lost.keys ≡ [] → seen_as k ≡ fresh_of k
fresh k none =
    λ i. record {
      version = k.version;
      len = sym (length-replicate {A = ℕ} k.len 0) i;
      code = k.code;
      lost = λ a b. ap (λ (keys : List (ℕ × ℕ)). list_any (is_at (pair_cmp (a, b))) keys) none i;
      count = ap length none i;
    }

-- the views after the lost fragments of a name changed
pub changed_at : (old new : List (List ℕ × BlobMetadata)) (puts : ℕ) (n : List ℕ) (k t : BlobMetadata) (change : View → View) → lookup (is_at (name_cmp n)) old ≡ Some k
    → ((q : List ℕ) → lookup (is_at (name_cmp q)) new ≡ cond (is_at (name_cmp n) q) (Some t) (lookup (is_at (name_cmp q)) old)) → seen_as t ≡ change (seen_as k)
    → record { names = seen_in new; puts = puts } ≡ changed (record { names = seen_in old; puts = puts }) n (seen_in old n) change
changed_at old new puts n k t change here updates same =
    subst (λ (found : Option View). record { names = seen_in new; puts = puts } ≡ changed (record { names = seen_in old; puts = puts }) n found change) (sym (ap (option_map seen_as) here))
    (λ i. record { names = λ q. shown old new n t (change (seen_as k)) updates same q i; puts = puts })

-- the views after a name is gone
pub deleted_at : (e : Entry) (v : Views) (n : List ℕ) (y : ℕ) (names : List ℕ → Option View) → e.call ≡ Delete n → e.note ≡ note.Deleted y
    → ((q : List ℕ) → names q ≡ cond (eq_by_cmp name_cmp q n) None (v.names q)) → record { names = names; puts = v.puts } ≡ next_views v e
deleted_at e v n y names call is gone =
    let P : Operation → Note → Type 0 = λ o m. record { names = names; puts = v.puts } ≡ view_after v o m in
    subst (λ (m : Note). P (call_operation e.call) m) (sym is) (subst (λ (k : Call). P (call_operation k) (note.Deleted y)) (sym call) (λ i. record { names = λ q. gone q i; puts = v.puts }))

-- ---- the lost pairs of each name's blob still rise
abbrev PairsOfRise : BlobMetadata → Type 0
PairsOfRise k = tree.IsOrdered pair_cmp k.lost

-- after one has another blob whose pairs rise
pub rise_with : (old new : BTreeMap (List ℕ) BlobMetadata) (n : List ℕ) (k : BlobMetadata)
    → ((q : List ℕ) → get name_cmp new q ≡ cond (is_at (name_cmp n) q) (Some k) (get name_cmp old q)) → PairsOfRise k → PairsRise old → PairsRise new
rise_with old new n k updates up rise q = by (is_at (name_cmp n) q) (updates q)
  where
    by : (b : Bool) → get name_cmp new q ≡ cond b (Some k) (get name_cmp old q) → IfSome (get name_cmp new q) PairsOfRise
    by true e = subst (λ found. IfSome found PairsOfRise) (sym e) up
    by false e = subst (λ found. IfSome found PairsOfRise) (sym e) (rise q)

-- and after one is gone
pub rise_without : (old new : BTreeMap (List ℕ) BlobMetadata) (n : List ℕ)
    → ((q : List ℕ) → get name_cmp new q ≡ cond (is_at (name_cmp n) q) None (get name_cmp old q)) → PairsRise old → PairsRise new
rise_without old new n updates rise q = by (is_at (name_cmp n) q) (updates q)
  where
    by : (b : Bool) → get name_cmp new q ≡ cond b None (get name_cmp old q) → IfSome (get name_cmp new q) PairsOfRise
    by true e = subst (λ found. IfSome found PairsOfRise) (sym e) tt
    by false e = subst (λ found. IfSome found PairsOfRise) (sym e) (rise q)
