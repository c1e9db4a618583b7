-- What outlines determine of metadata and of states.
use Rattle.std.proofs.Common.{◌≡◌, ℕ, ◌<◌, Bool, true, false, List, [], ◌∷◌, ◌++◌, map, length, take, get_or, append_assoc, length-append, replicate, Option, None, Some, cond, refl, sym, ap, ◌∙◌, subst, arith}
use Rattle.std.specs.Prelude.{All, IfSome}
use Rattle.std.specs.FinMap as finite
use Rattle.std.specs.FinSet as set
use Rattle.std.specs.Option.{option_map}
use Rattle.std.specs.List.{list_any}
use Rattle.std.specs.List.Sorted.{IsStrictlySortedBy}
use Rattle.std.specs.Map.{keys_of, lookup}
use Rattle.std.specs.BTreeMap.{insert_entry, is_at}
use Rattle.std.specs.Cmp.Lexicographic.{nat_list_cmp_total}
use Rattle.std.proofs.Math.Seq.{take-append_seam, get_or-append_seam}
use Rattle.std.proofs.lemmas.List.{length-replicate, map-append, map-id}
use Rattle.std.proofs.lemmas.List.Elements.{All-head, All-tail, All-map}
use Rattle.std.proofs.lemmas.Simd.{map-map}
use Rattle.std.proofs.lemmas.Map.Lookups.{exact_bytes}
use Rattle.std.proofs.lemmas.Map.Views.{tells_apart}
use Rattle.sealed.specs.Blob.{pair_cmp}
use Rattle.history.specs.Names.{name_cmp}
use Rattle.history.specs.State.{Blob, State}
use Rattle.history.specs.Base.{Outline, Checkpoint, Outlines, IsRising, outline_of, pairs_of}
use Rattle.history.specs.Views.{View, view, view_of}
use Rattle.history.specs.Metadata.{outline_kept, outlines_of, seen_as, views_of}
use Rattle.history.specs.declared.metadata.BlobMetadata.{BlobMetadata}
use Rattle.history.specs.declared.replay.Replay.{Replay}
use Rattle.history.proofs.Catalogue.{option_map-cond}
use Rattle.sealed.proofs.Changing.{pairs_total}
use Rattle.history.proofs.Rising.{insert_next, keys_rise, same_found, entries_back, same_pairs, pairs_of-has, pairs_of-length, pairs_rise}

-- the entry after those that are in goes to the end
kept_next : (all es rest : List (List ℕ × BlobMetadata)) (n : List ℕ) (k : BlobMetadata) → IsStrictlySortedBy name_cmp (keys_of all) → es ++ (n, k) ∷ rest ≡ all
    → insert_entry name_cmp es n k ++ rest ≡ all
kept_next all es rest n k s whole =
    let ks = keys_of all in
    let i = length (keys_of es) in
    let parts : ks ≡ keys_of es ++ n ∷ keys_of rest = sym (ap keys_of whole) ∙ map-append (λ (e : List ℕ × BlobMetadata). e.0) es ((n, k) ∷ rest) in
    let before : keys_of es ≡ take i ks = sym (ap (take i) parts ∙ take-append_seam (keys_of es) (n ∷ keys_of rest)) in
    let inside : i < length ks = omega (arith, ap length parts, length-append (keys_of es) (n ∷ keys_of rest)) in
    let at : n ≡ get_or ks i n = sym (ap (λ (l : List (List ℕ)). get_or l i n) parts ∙ get_or-append_seam (keys_of es) n (keys_of rest) n) in
    ap (λ (l : List (List ℕ × BlobMetadata)). l ++ rest) (insert_next nat_list_cmp_total ks s i n k inside at es before) ∙ append_assoc es ((n, k) ∷ []) rest ∙ whole

-- and also if it is inserted as copies of its name and metadata
pub copied_next : (all es rest new : List (List ℕ × BlobMetadata)) (n m : List ℕ) (k l : BlobMetadata) → IsStrictlySortedBy name_cmp (map (λ (o : Outline). o.name) (map outline_kept all))
    → es ++ (n, k) ∷ rest ≡ all → new ≡ insert_entry name_cmp es m l → m ≡ n → l ≡ k → new ++ rest ≡ all
copied_next all es rest new n m k l rises whole inserted same_name same =
    let sorted : IsStrictlySortedBy name_cmp (keys_of all) = subst (IsStrictlySortedBy name_cmp) (map-map (λ (o : Outline). o.name) outline_kept all) rises in
    ap (λ (es : List (List ℕ × BlobMetadata)). es ++ rest) (inserted ∙ (λ i. insert_entry name_cmp es (same_name i) (same i))) ∙ kept_next all es rest n k sorted whole

-- ---- what outlines show
abbrev shown_by : Outline → View
shown_by o = record { version = o.version; len = o.len; code = o.code; lost = λ j f. list_any (is_at (pair_cmp (j, f))) o.lost; count = length o.lost }

abbrev named : List Outline → List (List ℕ × Outline)
named os = map (λ o. (o.name, o)) os

-- the outline of the name n
abbrev found : List Outline → List ℕ → Option Outline
found os n = lookup (is_at (name_cmp n)) (named os)

-- it shows what the name has
module _ {X : Type 0} (seen : X → View) (outline : List ℕ × X → Outline) (name : (e : List ℕ × X) → (outline e).name ≡ e.0) (same : (e : List ℕ × X) → seen e.1 ≡ shown_by (outline e)) where
  shown_in : (es : List (List ℕ × X)) (n : List ℕ) → option_map seen (lookup (is_at (name_cmp n)) es) ≡ option_map shown_by (found (map outline es) n)
  shown_in [] n = refl
  shown_in (e ∷ es) n =
      sym (option_map-cond seen (is_at (name_cmp n) e.0) e.1 (lookup (is_at (name_cmp n)) es))
      ∙ (λ i. cond (is_at (name_cmp n) (sym (name e) i)) (Some (same e i)) (shown_in es n i))
      ∙ option_map-cond shown_by (is_at (name_cmp n) (outline e).name) (outline e) (found (map outline es) n)

kept_shown : (es : List (List ℕ × BlobMetadata)) (n : List ℕ) → option_map seen_as (lookup (is_at (name_cmp n)) es) ≡ option_map shown_by (found (map outline_kept es) n)
kept_shown = shown_in seen_as outline_kept (λ e. refl) (λ e. refl)

blob_shown : (e : List ℕ × Blob) → view_of e.1 ≡ shown_by (outline_of e)
blob_shown e = λ i. record {
  version = e.1.version;
  len = length e.1.bytes;
  code = e.1.code;
  lost = λ j f. sym (pairs_of-has e.1.lost (j, f)) i;
  count = sym (pairs_of-length e.1.lost) i;
}

state_shown : (s : State) (n : List ℕ) → option_map view_of (finite.get s.names n) ≡ option_map shown_by (found (map outline_of (finite.entries s.names)) n)
state_shown s n = ap (option_map view_of) (finite.get-entries s.names n) ∙ shown_in view_of outline_of (λ e. refl) blob_shown (finite.entries s.names) n

-- a base's metadata shows the same as each state that the base outlines
pub view_outlined : (base : Checkpoint) (s : State) (r : Replay) → Outlines base s → outlines_of r ≡ base.names → r.puts ≡ base.puts → view s ≡ views_of r
view_outlined base s r is names puts = λ i. record {
  names = λ n. (state_shown s n ∙ ap (λ (os : List Outline). option_map shown_by (found os n)) (sym is.names ∙ sym names) ∙ sym (kept_shown r.names.entries n)) i;
  puts = (sym is.puts ∙ sym puts) i;
}

-- ---- outlines in order that show the same are the same
abbrev IsOf : List ℕ → Outline → Type 0
IsOf n o = (o.name ≡ n) × IsStrictlySortedBy pair_cmp o.lost

found_is : (os : List Outline) → All (λ o. IsStrictlySortedBy pair_cmp o.lost) os → (n : List ℕ) → IfSome (found os n) (IsOf n)
found_is [] rise n = tt
found_is (o ∷ os) rise n = by (is_at (name_cmp n) o.name) refl (found_is os (All-tail (λ (p : Outline). IsStrictlySortedBy pair_cmp p.lost) o os rise) n)
  where
    by : (b : Bool) → is_at (name_cmp n) o.name ≡ b → IfSome (found os n) (IsOf n) → IfSome (cond b (Some o) (found os n)) (IsOf n)
    by true t rest = (sym (tells_apart exact_bytes n o.name t), All-head (λ (p : Outline). IsStrictlySortedBy pair_cmp p.lost) o os rise)
    by false t rest = rest

same_outline : (o p : Outline) → shown_by o ≡ shown_by p → o.name ≡ p.name → IsStrictlySortedBy pair_cmp o.lost → IsStrictlySortedBy pair_cmp p.lost → o ≡ p
same_outline o p e name s t = λ i. record {
  name = name i;
  version = (e i).version;
  len = (e i).len;
  code = (e i).code;
  lost = same_pairs o.lost p.lost s t (λ q j. (e j).lost q.0 q.1) i;
}

same_option : (n : List ℕ) (x y : Option Outline) → option_map shown_by x ≡ option_map shown_by y → IfSome x (IsOf n) → IfSome y (IsOf n) → x ≡ y
same_option n None None e p q = refl
same_option n None (Some o) e p q = absurd (let no : ⊥ = cc in no)
same_option n (Some o) None e p q = absurd (let no : ⊥ = cc in no)
same_option n (Some o) (Some o') e p q = ap Some (same_outline o o' (let same : shown_by o ≡ shown_by o' = cc in same) (p.0 ∙ sym q.0) p.1 q.1)

named_rise : (os : List Outline) → IsRising os → IsStrictlySortedBy name_cmp (keys_of (named os))
named_rise os rise = subst (IsStrictlySortedBy name_cmp) (sym (map-map (λ (e : List ℕ × Outline). e.0) (λ (o : Outline). (o.name, o)) os)) rise.0

unnamed : (os : List Outline) → map (λ (e : List ℕ × Outline). e.1) (named os) ≡ os
unnamed os = map-map (λ (e : List ℕ × Outline). e.1) (λ (o : Outline). (o.name, o)) os ∙ map-id os

same_outlines : (os ps : List Outline) → IsRising os → IsRising ps → ((n : List ℕ) → option_map shown_by (found os n) ≡ option_map shown_by (found ps n)) → os ≡ ps
same_outlines os ps s t e =
    sym (unnamed os)
    ∙ ap (map (λ (x : List ℕ × Outline). x.1)) (same_found nat_list_cmp_total exact_bytes (named os) (named ps) (named_rise os s) (named_rise ps t) (λ n. same_option n (found os n) (found ps n) (e n) (found_is os s.1 n) (found_is ps t.1 n)))
    ∙ unnamed ps

state_rises : (s : State) → IsRising (map outline_of (finite.entries s.names))
state_rises s = (
  subst (IsStrictlySortedBy name_cmp) (sym (map-map (λ (o : Outline). o.name) outline_of (finite.entries s.names))) (keys_rise s.names),
  All-map (λ (o : Outline). IsStrictlySortedBy pair_cmp o.lost) outline_of (finite.entries s.names) (λ k d l. pairs_rise _),
)

-- so the metadata has the outlines of each state that shows the same
pub outlines_are : (s : State) (r : Replay) → IsRising (outlines_of r) → view s ≡ views_of r → outlines_of r ≡ map outline_of (finite.entries s.names)
outlines_are s r rise e =
    same_outlines (outlines_of r) (map outline_of (finite.entries s.names)) rise (state_rises s) (λ n. sym (kept_shown r.names.entries n) ∙ sym (λ i. (e i).names n) ∙ state_shown s n)

-- ---- each base whose names rise outlines some state: one with zero bytes
abbrev blob_from : Outline → Blob
blob_from o = record { version = o.version; bytes = replicate o.len 0; code = o.code; lost = set.from_list o.lost }

abbrev pub state_from : Checkpoint → State
state_from base = record { names = finite.from_entries (map (λ o. (o.name, blob_from o)) base.names); puts = base.puts }

outline_back : (o : Outline) → IsStrictlySortedBy pair_cmp o.lost → o ≡ outline_of (o.name, blob_from o)
outline_back o s = λ i. record {
  name = o.name;
  version = o.version;
  len = sym (length-replicate {A = ℕ} o.len 0) i;
  code = o.code;
  lost = same_pairs o.lost (pairs_of (set.from_list o.lost)) s (pairs_rise (set.from_list o.lost)) (λ q. sym (set.contains-from_list pairs_total o.lost q) ∙ sym (pairs_of-has (set.from_list o.lost) q)) i;
}

outlines_back : (os : List Outline) → All (λ o. IsStrictlySortedBy pair_cmp o.lost) os → os ≡ map outline_of (map (λ o. (o.name, blob_from o)) os)
outlines_back [] rise = refl
outlines_back (o ∷ os) rise =
    let one = outline_back o (All-head (λ (p : Outline). IsStrictlySortedBy pair_cmp p.lost) o os rise) in
    let rest = outlines_back os (All-tail (λ (p : Outline). IsStrictlySortedBy pair_cmp p.lost) o os rise) in
    λ i. one i ∷ rest i

pub state_from-outlined : (base : Checkpoint) → IsRising base.names → Outlines base (state_from base)
state_from-outlined base rise =
    let es : List (List ℕ × Blob) = map (λ (o : Outline). (o.name, blob_from o)) base.names in
    let s = subst (IsStrictlySortedBy name_cmp) (sym (map-map (λ (e : List ℕ × Blob). e.0) (λ (o : Outline). (o.name, blob_from o)) base.names)) rise.0 in
    record { puts = refl; names = outlines_back base.names rise.1 ∙ sym (ap (map outline_of) (entries_back nat_list_cmp_total exact_bytes es s)) }
