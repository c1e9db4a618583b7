-- Values that differ in one slot.
use Rattle.std.proofs.Common.{◌≡◌, ◌≢◌, ℕ, ◌<◌, Bool, true, false, List, [], length, map, get_or, Option, None, Some, Result, Ok, Err, OnOk, OnErr, cond, refl, sym, ap, ◌∙◌, subst, arith}
use Rattle.std.specs.Prelude.{IfOk, slice_set, ◌&&◌, ◌||◌, ◌==◌, not}
use Rattle.std.specs.FinSet as set
use Rattle.std.specs.Cmp.{IsTotalOrder, nat_cmp_total}
use Rattle.std.specs.Ordering.{eq_by_cmp}
use Rattle.std.proofs.Props.{props}
use Rattle.std.proofs.lemmas.Cmp.{then_total, on_total}
use Rattle.std.proofs.lemmas.Grind.{common_steps}
use Rattle.std.proofs.lemmas.List.{ext_get_or, length-set, length-map, map-set, get_or-map, set-get_or}
use Rattle.lrc_code.specs.declared.Code.{Code}
use Rattle.lrc_code.specs.Code.{fragment_count}
use Rattle.sealed.specs.declared.value.Sealed.{Sealed}
use Rattle.sealed.specs.Layout.{stripe_count}
use Rattle.sealed.specs.Stripes.{Stripes, fragment_at, IsShaped}
use Rattle.sealed.specs.Blob.{Lost, pair_cmp, lost_in, fragment}
use Rattle.sealed.specs.Sealed.{StandsFor}
use Rattle.sealed.specs.Change.{IsChanged}

-- ---- one slot of a list of sixteen
set_or_kept : {X : Type 0} (new old : List (Option X)) (f i : ℕ) (x : Option X) → length new ≡ 16 → length old ≡ 16 → f < 16
    → ((k : ℕ) → k < 16 → k ≢ f → get_or new k None ≡ get_or old k None) → i < 16 → get_or (slice_set new f x) i None ≡ get_or (slice_set old f x) i None
set_or_kept new old f i x n m h kept hi = grind (arith, common_steps, kept, n, m)

pub all_but_one : {X : Type 0} (new old : List (Option X)) (f : ℕ) (x : Option X) → length new ≡ 16 → length old ≡ 16 → f < 16
    → ((k : ℕ) → k < 16 → k ≢ f → get_or new k None ≡ get_or old k None) → slice_set new f x ≡ slice_set old f x
all_but_one new old f x n m h kept =
    let long : length (slice_set new f x) ≡ 16 = length-set new f x ∙ n in
    ext_get_or None (slice_set new f x) (slice_set old f x) (long ∙ sym m ∙ sym (length-set old f x)) (λ i hi. set_or_kept new old f i x n m h kept (omega arith))

-- ---- one fragment of the stripes
in_row : (row : List (Option (List ℕ))) (f g : ℕ) (x : Option (List ℕ)) → f < length row → get_or (slice_set row f x) g None ≡ cond (g == f) x (get_or row g None)
in_row row f g x h = grind (arith, common_steps)

in_rows : (stripes : Stripes) (row : List (Option (List ℕ))) (j i : ℕ) → j < length stripes → get_or (slice_set stripes j row) i [] ≡ cond (i == j) row (get_or stripes i [])
in_rows stripes row j i h = grind (arith, common_steps)

pick_row : (b : Bool) (new row : List (Option (List ℕ))) (g f : ℕ) (x : Option (List ℕ)) → (b ≡ true → get_or new g None ≡ cond (g == f) x (get_or row g None))
    → get_or (cond b new row) g None ≡ cond (b && (g == f)) x (get_or row g None)
pick_row true new row g f x h = h refl
pick_row false new row g f x h = refl

same_number : (i j : ℕ) → (i == j) ≡ true → j ≡ i
same_number i j e = grind (arith, common_steps)

pub set_at : (stripes : Stripes) (j f i g : ℕ) (x : Option (List ℕ)) → j < length stripes → f < length (get_or stripes j [])
    → fragment_at (slice_set stripes j (slice_set (get_or stripes j []) f x)) i g ≡ cond ((i == j) && (g == f)) x (fragment_at stripes i g)
set_at stripes j f i g x hj hf =
    ap (λ (row : List (Option (List ℕ))). get_or row g None) (in_rows stripes (slice_set (get_or stripes j []) f x) j i hj)
    ∙ pick_row (i == j) (slice_set (get_or stripes j []) f x) (get_or stripes i []) g f x
    (λ e. in_row (get_or stripes j []) f g x hf ∙ ap (λ (k : ℕ). cond (g == f) x (get_or (get_or stripes k []) g None)) (same_number i j e))

-- any other fragment
pub off_slot : (i j g f : ℕ) → g ≢ f → ((i == j) && (g == f)) ≡ false
off_slot i j g f ne = grind (arith, common_steps)

pub off_row : (i j g f : ℕ) → i ≢ j → ((i == j) && (g == f)) ≡ false
off_row i j g f ne = grind (arith, common_steps)

-- ---- one element that is seen as a row
module _ {A : Type 0} (items : List A) (row : A → List (Option (List ℕ))) (j : ℕ) (old new : A) (there : j < length items) (at : old ≡ get_or items j old) where
  row_at : get_or (map row items) j [] ≡ row old
  row_at = get_or-map row items j old [] there ∙ ap row (sym at)

  pub slot_changed : (f : ℕ) (x : Option (List ℕ)) → f < length (row old) → row new ≡ slice_set (row old) f x
      → (i g : ℕ) → fragment_at (map row (slice_set items j new)) i g ≡ cond ((i == j) && (g == f)) x (fragment_at (map row items) i g)
  slot_changed f x inside changed i g =
      ap (λ (t : Stripes). fragment_at t i g)
      (map-set row items j new ∙ ap (slice_set (map row items) j) (changed ∙ ap (λ (r : List (Option (List ℕ))). slice_set r f x) (sym row_at)))
      ∙ set_at (map row items) j f i g x (omega (arith, length-map items row)) (omega (arith, ap length row_at))

  pub row_kept : row new ≡ row old → map row (slice_set items j new) ≡ map row items
  row_kept same = map-set row items j new ∙ ap (slice_set (map row items) j) (same ∙ sym row_at) ∙ set-get_or (map row items) j []

-- ---- the value
last_bytes : (a : Bool) (g f : ℕ) → (a && (g == f)) ≡ true → g ≡ f
last_bytes a g f e = grind (arith, common_steps)

sized_of : (s : Sealed) (f : ℕ) (x : Option (List ℕ)) → f < fragment_count s.code → ((y : List ℕ) → x ≡ Some y → length y ≡ s.width)
    → (b : Bool) (i g : ℕ) (y : List ℕ) → (b ≡ true → g ≡ f) → cond b x (fragment_at s.stripes i g) ≡ Some y → (g < fragment_count s.code) × (length y ≡ s.width)
sized_of s f x inside long true i g y here found = (let e = here refl in omega arith, long y found)
sized_of s f x inside long false i g y here found = s.shaped.sized i g y found

-- it keeps its shape
pub shape_kept : (s : Sealed) (j f : ℕ) (x : Option (List ℕ)) (stripes : Stripes) → length stripes ≡ length s.stripes → f < fragment_count s.code → ((y : List ℕ) → x ≡ Some y → length y ≡ s.width)
    → ((i g : ℕ) → fragment_at stripes i g ≡ cond ((i == j) && (g == f)) x (fragment_at s.stripes i g)) → IsShaped stripes s.code s.width s.len
shape_kept s j f x stripes count inside long at =
    record {
      wide = s.shaped.wide;
      count = count ∙ s.shaped.count;
      few = (let few = s.shaped.few in omega arith);
      sized = λ i g y found. sized_of s f x inside long ((i == j) && (g == f)) i g y (last_bytes (i == j) g f) (sym (at i g) ∙ found);
    }

-- whichever way a call ends
pub either_way : {T E P Q R : Type 0} (r : Result T E) → (P → R) → (Q → R) → OnOk r P → OnErr r Q → R
either_way (Ok x) p q ok err = p ok
either_way (Err x) p q ok err = q err

-- from two clauses about a call's result follows what follows from both
pub both_ok : {T E : Type 0} (r : Result T E) (P Q R : T → Type 0) → ((x : T) → P x → Q x → R x) → IfOk r P → IfOk r Q → IfOk r R
both_ok (Ok x) P Q R follows p q = follows x p q
both_ok (Err e) P Q R follows p q = tt

-- the same fields are the same value
pub same_fields : (s : Sealed) (stripes : Stripes) (shaped : IsShaped stripes s.code s.width s.len) → stripes ≡ s.stripes
    → record { version = s.version; len = s.len; width = s.width; code = s.code; stripes = stripes; shaped = shaped } ≡ s
same_fields s stripes shaped same =
    let one : IsProp (IsShaped s.stripes s.code s.width s.len) = hlevel props in
    let P : Stripes → Type 0 = λ t. (h : IsShaped t s.code s.width s.len) → record { version = s.version; len = s.len; width = s.width; code = s.code; stripes = t; shaped = h } ≡ s in
    subst P (sym same) (λ h. λ i. record { version = s.version; len = s.len; width = s.width; code = s.code; stripes = s.stripes; shaped = one h s.shaped i }) shaped

pub pairs_total : IsTotalOrder pair_cmp
pairs_total = then_total (on_total (λ (p : ℕ × ℕ). p.0) nat_cmp_total) (on_total (λ (p : ℕ × ℕ). p.1) nat_cmp_total)

tied_pairs : (i g j f : ℕ) → eq_by_cmp pair_cmp (i, g) (j, f) ≡ ((i == j) && (g == f))
tied_pairs i g j f = grind (arith, common_steps)

-- it represents the same bytes if each fragment is lost in the new pairs or is the blob's
stands_by : (s t : Sealed) (b : List ℕ) (lost : Lost) → t.len ≡ s.len → t.width ≡ s.width → t.code ≡ s.code → StandsFor s b lost → (new : Lost)
    → ((i g : ℕ) → i < stripe_count s.code s.width s.len → g < fragment_count s.code → fragment_at t.stripes i g ≡ cond (lost_in new i g) None (Some (fragment s.code s.width b i g))) → StandsFor t b new
stands_by s t b lost len width code stands new at =
    let P : Code → ℕ → ℕ → Type 0 = λ c w l. (i g : ℕ) → i < stripe_count c w l → g < fragment_count c → fragment_at t.stripes i g ≡ cond (lost_in new i g) None (Some (fragment c w b i g)) in
    record { bytes = stands.bytes; length_is = len ∙ stands.length_is; fragments = subst (λ c. P c t.width t.len) (sym code) (subst (λ w. P s.code w t.len) (sym width) (subst (λ l. P s.code s.width l) (sym len) at)) }

none_or_none : (a c : Bool) (x : Option (List ℕ)) → cond a None (cond c None x) ≡ cond (a || c) None x
none_or_none true c x = refl
none_or_none false c x = refl

pub without_stands : (s t : Sealed) (b : List ℕ) (lost : Lost) (j f : ℕ) → IsChanged s j f None t → StandsFor s b lost → StandsFor t b (set.insert lost (j, f))
without_stands s t b lost j f changed stands =
    stands_by s t b lost changed.len changed.width changed.code stands (set.insert lost (j, f))
    (λ i g hi hg.
    changed.fragments i g
    ∙ ap (λ o. cond ((i == j) && (g == f)) None o) (stands.fragments i g hi hg)
    ∙ none_or_none ((i == j) && (g == f)) (lost_in lost i g) (Some (fragment s.code s.width b i g))
    ∙ ap (λ e. cond (e || lost_in lost i g) None (Some (fragment s.code s.width b i g))) (sym (tied_pairs i g j f))
    ∙ ap (λ e. cond e None (Some (fragment s.code s.width b i g))) (sym (set.contains-insert pairs_total lost (j, f) (i, g))))

some_or_none : (a c : Bool) (x y : Option (List ℕ)) → (a ≡ true → x ≡ y) → cond a x (cond c None y) ≡ cond (not a && c) None y
some_or_none true c x y same = same refl
some_or_none false c x y same = refl

first_of : (i j : ℕ) (b : Bool) → ((i == j) && b) ≡ true → i ≡ j
first_of i j b e = grind (arith, common_steps)

pub with_stands : (s t : Sealed) (b : List ℕ) (lost : Lost) (j f : ℕ) (bytes : List ℕ) → IsChanged s j f (Some bytes) t → StandsFor s b lost → bytes ≡ fragment s.code s.width b j f
    → StandsFor t b (set.remove lost (j, f))
with_stands s t b lost j f bytes changed stands own =
    stands_by s t b lost changed.len changed.width changed.code stands (set.remove lost (j, f))
    (λ i g hi hg.
    let whole : Option (List ℕ) = Some (fragment s.code s.width b i g) in
    changed.fragments i g
    ∙ ap (λ o. cond ((i == j) && (g == f)) (Some bytes) o) (stands.fragments i g hi hg)
    ∙ some_or_none ((i == j) && (g == f)) (lost_in lost i g) (Some bytes) whole
    (λ e. ap (λ x. Some x) (own ∙ ap (λ k. fragment s.code s.width b k f) (sym (first_of i j (g == f) e)) ∙ ap (λ h. fragment s.code s.width b i h) (sym (last_bytes (i == j) g f e))))
    ∙ ap (λ e. cond (not e && lost_in lost i g) None whole) (sym (tied_pairs i g j f))
    ∙ ap (λ e. cond e None whole) (sym (set.contains-remove pairs_total lost (j, f) (i, g))))
