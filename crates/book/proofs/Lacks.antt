-- The names of the blobs that lack a fragment, beside the blobs.
use Rattle.std.proofs.Common.{◌≡◌, ℕ, ◌*◌, Bool, true, false, ◌||◌, List, [], ◌∷◌, ◌++◌, Option, None, Some, map, cond, length, refl, sym, ap, ◌∙◌, subst, inl, inr, arith}
use Rattle.std.specs.Prelude.{nat_lt}
use Rattle.std.specs.Option.{option_map}
use Rattle.std.specs.List.{AllByRecursion, list_any, filter, flat_map}
use Rattle.std.specs.List.Sorted.{IsStrictlySortedBy}
use Rattle.std.specs.Map.{keys_of, lookup}
use Rattle.std.specs.BTreeMap.{is_at}
use Rattle.std.specs.Cmp.{Equal-is}
use Rattle.std.specs.Cmp.Lexicographic.{nat_list_cmp_total}
use Rattle.std.specs.declared.cmp.Ordering.TheVariants.{Less}
use Rattle.std.proofs.lemmas.Bool.{cases_Bool}
use Rattle.std.proofs.lemmas.Cmp.{eq_by_cmp_equiv}
use Rattle.std.proofs.lemmas.List.Folds.{flat_map-map}
use Rattle.std.proofs.lemmas.Map.Entries.{option_filter, lookup-filter-values}
use Rattle.std.proofs.lemmas.Map.Keys.{IsDistinct-from_sorted}
use Rattle.std.proofs.lemmas.Map.Lookups.{exact_bytes}
use Rattle.std.proofs.lemmas.Map.Made.{lookup-map_values, keys_of-map_values}
use Rattle.sealed.specs.declared.value.Sealed.{Sealed}
use Rattle.history.specs.Names.{name_cmp}
use Rattle.history.proofs.Rising.{same_found}
use Rattle.book.specs.Catalogue.{lacks_some, lacks_any, lacks_at, items_from}
use Rattle.book.specs.Lacking.{lacked_count}
use Rattle.book.specs.Losing.{Catalogue, value_at}
use Rattle.book.specs.Plan.{items_for, items_lacked}
use Rattle.book.specs.declared.plan.Item.{Item}
use Rattle.book.proofs.Planning.{none_below}

-- ---- one name is settled
same_name : (n q : List ℕ) → is_at (name_cmp n) q ≡ true → n ≡ q
same_name n q tied = exact_bytes n q ((Equal-is (name_cmp n q)).0 tied)

module _ (blobs : Catalogue) (n : List ℕ) (has : List ℕ → Bool) (others : (q : List ℕ) → is_at (name_cmp n) q ≡ false → has q ≡ lacks_at blobs q) where
  -- if its blob lacks nothing, the name is taken out
  pub taken_out : (new : List ℕ → Bool) → ((q : List ℕ) → new q ≡ cond (is_at (name_cmp n) q) false (has q)) → lacks_at blobs n ≡ false → (q : List ℕ) → new q ≡ lacks_at blobs q
  taken_out new updates whole q =
      elim (cases_Bool (is_at (name_cmp n) q)) [
        | inl tied ↦ updates q ∙ ap (λ b. cond b false (has q)) tied ∙ sym whole ∙ ap (lacks_at blobs) (same_name n q tied)
        | inr other ↦ updates q ∙ ap (λ b. cond b false (has q)) other ∙ others q other
      ]

  -- if its blob lacks some, it stays
  pub stays : (lacks_at blobs n ≡ true → has n ≡ true) → lacks_at blobs n ≡ true → (q : List ℕ) → has q ≡ lacks_at blobs q
  stays own lacking q =
      elim (cases_Bool (is_at (name_cmp n) q)) [
        | inl tied ↦ ap has (sym (same_name n q tied)) ∙ own lacking ∙ sym lacking ∙ ap (lacks_at blobs) (same_name n q tied)
        | inr other ↦ others q other
      ]

-- ---- a name whose value is replaced by one that lacks nothing, or taken out
pub none_lacks : (s : Sealed) → lacked_count s ≡ 0 → lacks_some s ≡ false
none_lacks s none = ap (nat_lt 0) none

pub replaced : (old new : Catalogue) (n : List ℕ) (x : Option Sealed) (has after : List ℕ → Bool) → lacks_any x ≡ false → ((q : List ℕ) → has q ≡ lacks_at old q)
    → ((q : List ℕ) → value_at new q ≡ cond (is_at (name_cmp n) q) x (value_at old q)) → ((q : List ℕ) → after q ≡ cond (is_at (name_cmp n) q) false (has q)) → (q : List ℕ) → after q ≡ lacks_at new q
replaced old new n x has after whole agree values updates q =
    elim (cases_Bool (is_at (name_cmp n) q)) [
      | inl tied ↦ updates q ∙ ap (λ b. cond b false (has q)) tied ∙ sym whole ∙ ap (λ b. lacks_any (cond b x (value_at old q))) (sym tied) ∙ ap lacks_any (sym (values q))
      | inr other ↦ updates q ∙ ap (λ b. cond b false (has q)) other ∙ agree q ∙ ap (λ b. lacks_any (cond b x (value_at old q))) (sym other) ∙ ap lacks_any (sym (values q))
    ]

-- ---- what is listed
abbrev lacking_of : Catalogue → Catalogue
lacking_of es = filter (λ e. lacks_some e.1) es

abbrev found_in : Catalogue → List (List ℕ) → List (List ℕ × Option Sealed)
found_in es names = map (λ n. (n, value_at es n)) names

abbrev as_found : Catalogue → List (List ℕ × Option Sealed)
as_found es = map (λ e. (e.0, Some e.1)) es

keys_found : (es : Catalogue) (names : List (List ℕ)) → keys_of (found_in es names) ≡ names
keys_found es [] = refl
keys_found es (n ∷ names) = ap (λ (l : List (List ℕ)). n ∷ l) (keys_found es names)

-- a name is found with its value if it is among the names
one_found : (es : Catalogue) (q n : List ℕ) (later : Option (Option Sealed)) (b any : Bool) → is_at (name_cmp q) n ≡ b → later ≡ cond any (Some (value_at es q)) None
    → cond b (Some (value_at es n)) later ≡ cond (b || any) (Some (value_at es q)) None
one_found es q n later true any tied same = ap (λ k. Some (value_at es k)) (sym (same_name q n tied))
one_found es q n later false any tied same = same

lookup_found : (es : Catalogue) (q : List ℕ) (names : List (List ℕ)) → lookup (is_at (name_cmp q)) (found_in es names) ≡ cond (list_any (is_at (name_cmp q)) names) (Some (value_at es q)) None
lookup_found es q [] = refl
lookup_found es q (n ∷ names) = one_found es q n _ (is_at (name_cmp q) n) (list_any (is_at (name_cmp q)) names) refl (lookup_found es q names)

-- a filter of the entries keeps their order
one_kept : (P : List ℕ → Type 0) (b : Bool) (e : List ℕ × Sealed) (es : Catalogue) → P e.0 → AllByRecursion P (keys_of es) → AllByRecursion P (keys_of (cond b (e ∷ es) es))
one_kept P true e es here all = (here, all)
one_kept P false e es here all = all

all_kept : (P : List ℕ → Type 0) (es : Catalogue) → AllByRecursion P (keys_of es) → AllByRecursion P (keys_of (lacking_of es))
all_kept P [] all = tt
all_kept P (e ∷ es) all = one_kept P (lacks_some e.1) e (lacking_of es) all.0 (all_kept P es all.1)

one_rises : (b : Bool) (e : List ℕ × Sealed) (es : Catalogue) → AllByRecursion (λ k. name_cmp e.0 k ≡ Less) (keys_of es) → IsStrictlySortedBy name_cmp (keys_of es) → IsStrictlySortedBy name_cmp (keys_of (cond b (e ∷ es) es))
unfolding IsStrictlySortedBy
one_rises true e es below rises = (below, rises)
one_rises false e es below rises = rises

lacking_rises : (es : Catalogue) → IsStrictlySortedBy name_cmp (keys_of es) → IsStrictlySortedBy name_cmp (keys_of (lacking_of es))
unfolding IsStrictlySortedBy
lacking_rises [] rises = tt
lacking_rises (e ∷ es) rises = one_rises (lacks_some e.1) e (lacking_of es) (all_kept (λ k. name_cmp e.0 k ≡ Less) es rises.0) (lacking_rises es rises.1)

some_option : (b : Bool) (s : Sealed) → ◌≡◌ {A = Option (Option Sealed)} (cond b (Some (Some s)) None) (option_map (λ s. Some s) (cond b (Some s) None))
some_option true s = refl
some_option false s = refl

same_option : (x : Option Sealed) → cond (lacks_any x) (Some x) None ≡ option_map (λ s. Some s) (option_filter lacks_some x)
same_option None = refl
same_option (Some s) = some_option (lacks_some s) s

-- the names that lack some, with their values, are the entries that lack some
same_entries : (es : Catalogue) (names : List (List ℕ)) → IsStrictlySortedBy name_cmp (keys_of es) → IsStrictlySortedBy name_cmp names
    → ((q : List ℕ) → list_any (is_at (name_cmp q)) names ≡ lacks_at es q) → found_in es names ≡ as_found (lacking_of es)
same_entries es names rises rising agree =
    same_found nat_list_cmp_total exact_bytes _ _ (subst (IsStrictlySortedBy name_cmp) (sym (keys_found es names)) rising)
    (subst (IsStrictlySortedBy name_cmp) (sym (keys_of-map_values (λ (s : Sealed). Some s) (lacking_of es))) (lacking_rises es rises))
    (λ q. lookup_found es q names
    ∙ ap (λ b. cond b (Some (value_at es q)) None) (agree q)
    ∙ same_option (value_at es q)
    ∙ ap (option_map (λ s. Some s)) (sym (lookup-filter-values (eq_by_cmp_equiv nat_list_cmp_total) lacks_some q es (IsDistinct-from_sorted name_cmp (keys_of es) rises)))
    ∙ sym (lookup-map_values (λ (s : Sealed). Some s) (is_at (name_cmp q)) (lacking_of es)))

-- nothing is listed of the others
none_of : (c : ℕ) → nat_lt 0 c ≡ false → c ≡ 0
none_of c none = grind (arith)

one_listed : (b : Bool) (e : List ℕ × Sealed) (es all : Catalogue) → lacks_some e.1 ≡ b → flat_map items_lacked es ≡ flat_map items_lacked all → flat_map items_lacked (cond b (e ∷ es) es) ≡ items_lacked e ++ flat_map items_lacked all
one_listed true e es all is same = ap (λ (items : List Item). items_lacked e ++ items) same
one_listed false e es all is same =
    same ∙ ap (λ pairs. items_for e.0 e.1.version pairs ++ flat_map items_lacked all) (sym (none_below e.1 (16 * length e.1.stripes) (none_of (lacked_count e.1) is)))

all_listed : (es : Catalogue) → flat_map items_lacked (lacking_of es) ≡ flat_map items_lacked es
all_listed [] = refl
all_listed (e ∷ es) = one_listed (lacks_some e.1) e (lacking_of es) es refl (all_listed es)

pub lacking_listed : (es : Catalogue) (names : List (List ℕ)) → IsStrictlySortedBy name_cmp (keys_of es) → IsStrictlySortedBy name_cmp names
    → ((q : List ℕ) → list_any (is_at (name_cmp q)) names ≡ lacks_at es q) → flat_map (λ n. items_from (n, value_at es n)) names ≡ flat_map items_lacked es
lacking_listed es names rises rising agree =
    sym (flat_map-map items_from (λ n. (n, value_at es n)) names)
    ∙ ap (flat_map items_from) (same_entries es names rises rising agree)
    ∙ flat_map-map items_from (λ e. (e.0, Some e.1)) (lacking_of es)
    ∙ all_listed es
