-- The totals of a catalogue in which one value was replaced.
use Rattle.std.proofs.Common.{◌≡◌, ℕ, ◌+◌, ◌*◌, ◌^◌, ◌<◌, ◌≤◌, List, Option, None, Some, Result, Ok, Err, IfOk, IfSome, OnErr, length, refl, sym, ap, ◌∙◌, subst, arith}
use Rattle.std.specs.Prelude.{unwrap_or}
use Rattle.std.specs.Option.{option_map}
use Rattle.std.specs.List.Sorted.{IsStrictlySortedBy}
use Rattle.std.specs.Map.{keys_of, values_of, set_value, remove_entry}
use Rattle.std.specs.BTreeMap.{is_at, insert_entry}
use Rattle.std.specs.Cmp.Lexicographic.{nat_list_cmp_total}
use Rattle.std.proofs.lemmas.List.Elements.{All-weaker}
use Rattle.std.proofs.lemmas.List.Sums.{sum_by-le}
use Rattle.std.proofs.lemmas.Map.Entries.{sum_by-insert_entry, sum_by-remove_entry, sum_by-set_value, length-values_of}
use Rattle.std.proofs.lemmas.Map.Views.{All-values-insert_entry, All-map-remove_entry, All-values-set_value, IfSome-lookup_from_All}
use Rattle.sealed.specs.declared.fault.Fault.{Fault}
use Rattle.sealed.specs.declared.value.Sealed.{Sealed}
use Rattle.history.specs.Names.{name_cmp}
use Rattle.history.specs.declared.note.Note.{Note}
use Rattle.history.specs.declared.note.Note.TheVariants as note
use Rattle.book.specs.declared.answer.Answer.{Answer}
use Rattle.book.specs.declared.totals.Totals.{Totals}
use Rattle.book.specs.Lacking.{lacked_count}
use Rattle.book.specs.Losing.{Catalogue, value_at, Loses, Mends, Restores}
use Rattle.book.specs.Notes.{note_of}
use Rattle.book.specs.Totals.{open_count, totals_of_blob, share_at, total, AreSmall, DifferBy, DifferAt}
use Rattle.book.proofs.Mending.{few_lacked, few_open}

-- ---- one value is replaced
abbrev weight : (Sealed → ℕ) → Option Sealed → ℕ
weight f x = unwrap_or (option_map f x) 0

bytes_at : (x : Option Sealed) → (share_at x).bytes ≡ weight (λ s. s.len) x
bytes_at None = refl
bytes_at (Some s) = refl

lost_at : (x : Option Sealed) → (share_at x).lost ≡ weight lacked_count x
lost_at None = refl
lost_at (Some s) = refl

open_at : (x : Option Sealed) → (share_at x).unrecoverable ≡ weight open_count x
open_at None = refl
open_at (Some s) = refl

pub differ_same : (es : Catalogue) (share : Totals) → DifferBy es es share share
differ_same es share = record { bytes = refl; lost = refl; unrecoverable = refl; small = λ small. small }

module _ (old : Catalogue) (n : List ℕ) where
  pub differ_insert : (new : Catalogue) (s : Sealed) → IsStrictlySortedBy name_cmp (keys_of old) → s.len < 2 ^ 64 → new ≡ insert_entry name_cmp old n s → DifferBy old new (share_at (value_at old n)) (totals_of_blob s)
  differ_insert new s rises few is =
      let sum : (f : Sealed → ℕ) (k : ℕ) → k ≡ weight f (value_at old n) → total f new + k ≡ total f old + f s = λ f k e.
      (λ i. total f (is i) + e i) ∙ sum_by-insert_entry f nat_list_cmp_total old n s rises in
      record {
        bytes = sum (λ s. s.len) _ (bytes_at (value_at old n));
        lost = sum lacked_count _ (lost_at (value_at old n));
        unrecoverable = sum open_count _ (open_at (value_at old n));
        small = λ small. subst AreSmall (sym is) (All-values-insert_entry name_cmp n s (λ s. s.len < 2 ^ 64) old small few);
      }

  pub differ_remove : (new : Catalogue) → new ≡ remove_entry (is_at (name_cmp n)) old → DifferBy old new (share_at (value_at old n)) (share_at None)
  differ_remove new is =
      let sum : (f : Sealed → ℕ) (k : ℕ) → k ≡ weight f (value_at old n) → total f new + k ≡ total f old + 0 = λ f k e.
      (λ i. total f (is i) + e i) ∙ sum_by-remove_entry f (is_at (name_cmp n)) old ∙ (let zero : total f old ≡ total f old + 0 = omega arith in zero) in
      record {
        bytes = sum (λ s. s.len) _ (bytes_at (value_at old n));
        lost = sum lacked_count _ (lost_at (value_at old n));
        unrecoverable = sum open_count _ (open_at (value_at old n));
        small = λ small. subst AreSmall (sym is) (All-map-remove_entry (is_at (name_cmp n)) (λ e. e.1) (λ s. s.len < 2 ^ 64) old small);
      }

  small_at : (x : Option Sealed) (s : Sealed) → x ≡ Some s → IfSome x (λ s. s.len < 2 ^ 64) → s.len < 2 ^ 64
  small_at x s here small = subst (λ (y : Option Sealed). IfSome y (λ s. s.len < 2 ^ 64)) here small

  pub differ_set : (new : Catalogue) (s t : Sealed) → value_at old n ≡ Some s → t.len ≡ s.len → new ≡ set_value (is_at (name_cmp n)) old t → DifferBy old new (totals_of_blob s) (totals_of_blob t)
  differ_set new s t here long is =
      let sum : (f : Sealed → ℕ) → total f new + f s ≡ total f old + f t = λ f.
      ap (λ (es : Catalogue). total f es + f s) is ∙ sum_by-set_value f (is_at (name_cmp n)) old s t here in
      record {
        bytes = sum (λ s. s.len);
        lost = sum lacked_count;
        unrecoverable = sum open_count;
        small = λ small.
            let few : s.len < 2 ^ 64 = small_at (value_at old n) s here (IfSome-lookup_from_All (λ s. s.len < 2 ^ 64) (is_at (name_cmp n)) old small) in
            subst AreSmall (sym is) (All-values-set_value (is_at (name_cmp n)) (λ s. s.len < 2 ^ 64) old t small (omega (arith, few, long)));
      }

-- ---- a loss or a repair
pub loses_len : (j f : ℕ) (m : Note) (s t : Sealed) → Loses j f m s t → t.len ≡ s.len
loses_len j f (note.Lost v) s t is = is.len
loses_len j f m s t is = ap (λ (x : Sealed). x.len) is

pub mends_len : (j f : ℕ) (m : Note) (s t : Sealed) → Mends j f m s t → t.len ≡ s.len
mends_len j f (note.Repaired v) s t is = is.len
mends_len j f m s t is = ap (λ (x : Sealed). x.len) is

pub restores_len : (v j f : ℕ) (x : List ℕ) (m : Note) (s t : Sealed) → Restores v j f x m s t → t.len ≡ s.len
restores_len v j f x (note.Repaired y) s t is = is.1.len
restores_len v j f x m s t is = ap (λ (x : Sealed). x.len) is

same_len : (r : Result Answer Fault) (s t : Sealed) (Becomes : Note → Sealed → Sealed → Type 0) → ((m : Note) → Becomes m s t → t.len ≡ s.len)
    → IfOk r (λ a. Becomes (note_of a) s t) → OnErr r (t ≡ s) → t.len ≡ s.len
same_len (Ok a) s t Becomes long becomes same = long (note_of a) becomes
same_len (Err e) s t Becomes long becomes same = ap (λ (x : Sealed). x.len) same

-- a call on the value of a name wrote the new value over it
pub differ_at : (old new : Catalogue) (n : List ℕ) (s t : Sealed) (r : Result Answer Fault) (Becomes : Note → Sealed → Sealed → Type 0) → Some s ≡ value_at old n → Some t ≡ value_at new n
    → new ≡ set_value (is_at (name_cmp n)) old t → ((m : Note) (x y : Sealed) → Becomes m x y → y.len ≡ x.len) → IfOk r (λ a. Becomes (note_of a) s t) → OnErr r (t ≡ s) → DifferAt old new n
differ_at old new n s t r Becomes here there is long becomes same =
    subst (λ x. DifferBy old new (share_at x) (share_at (value_at new n))) here
    (subst (λ x. DifferBy old new (totals_of_blob s) (share_at x)) there (differ_set old n new s t (sym here) (same_len r s t Becomes (λ m. long m s t) becomes same) is))

-- ---- no total overflows
pub bounded : (es : Catalogue) → AreSmall es → (total (λ s. s.len) es ≤ length es * 2 ^ 64) × (total lacked_count es ≤ length es * 2 ^ 64) × (total open_count es ≤ length es * 2 ^ 64)
bounded es small =
    let count : length (values_of es) ≡ length es = length-values_of es in
    let under : (f : Sealed → ℕ) → ((s : Sealed) → s.len < 2 ^ 64 → f s ≤ 2 ^ 64) → total f es ≤ length es * 2 ^ 64 = λ f le.
    subst (λ k. total f es ≤ k * 2 ^ 64) count (sum_by-le f (2 ^ 64) (values_of es) (All-weaker (λ s. s.len < 2 ^ 64) (λ s. f s ≤ 2 ^ 64) le (values_of es) small)) in (
      under (λ s. s.len) (λ s few. omega arith),
      under lacked_count (λ s few. let l = few_lacked s in omega arith),
      under open_count (λ s few. let l = few_open s in omega arith),
    )
