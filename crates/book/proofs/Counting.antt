-- The numbers of a book are those of each history that it represents.
use Rattle.std.proofs.Common.{◌≡◌, ℕ, ◌+◌, ◌*◌, ◌/◌, ◌%◌, zero, suc, Bool, true, false, List, [], ◌∷◌, ◌++◌, drop, length, cond, refl, sym, ap, ◌∙◌, arith}
use Rattle.std.specs.Prelude.{MatchBool}
use Rattle.std.specs.FinMap as finite
use Rattle.std.specs.List.{sum_by, flat_map}
use Rattle.std.specs.List.Sorted.{IsStrictlySortedBy}
use Rattle.std.specs.Map.{keys_of, values_of}
use Rattle.std.proofs.lemmas.List.{length-append, length-map, length-drop}
use Rattle.std.proofs.lemmas.List.Sums.{sum_by-cons}
use Rattle.lrc_code.specs.declared.Code.{Code}
use Rattle.lrc_code.specs.Code.{Open, excess_of}
use Rattle.lrc_code.specs.Count.{count_below}
use Rattle.lrc_code.proofs.Recoverable.{some_open, unique}
use Rattle.sealed.specs.declared.value.Sealed.{Sealed}
use Rattle.history.specs.Names.{name_cmp}
use Rattle.history.specs.State.{Blob, IsLostInside}
use Rattle.history.specs.History.{History, state_of, entry_of}
use Rattle.history.proofs.Keeping.{lt_of}
use Rattle.book.specs.Contents.{Contents}
use Rattle.book.specs.Lacking.{lacks, lacked_count, lacked_below}
use Rattle.book.specs.Losing.{Catalogue}
use Rattle.book.specs.Numbers.{open_stripes, sum_of}
use Rattle.book.specs.Plan.{items_lacked, plan_of}
use Rattle.book.specs.Holds.{HoldsHistory, Represents}
use Rattle.book.specs.Totals.{has_open, open_count, total}
use Rattle.book.specs.declared.plan.Item.{Item}
use Rattle.book.proofs.Lacking.{open_alike}
use Rattle.book.proofs.Planning.{with_values, same_by_name, plan_is}

-- ---- sums over the blobs
sum_with : {X : Type 0} (f : X → ℕ) (es : List (List ℕ × X)) → sum_by f (values_of es) ≡ sum_by (λ e. e.1) (with_values f es)
sum_with f [] = refl
sum_with f (e ∷ es) = sum_by-cons f e.1 (values_of es) ∙ ap (λ n. f e.1 + n) (sum_with f es) ∙ sym (sum_by-cons (λ (p : List ℕ × ℕ). p.1) (e.0, f e.1) (with_values f es))

module _ (book : Contents) (h : History) (rises : IsStrictlySortedBy name_cmp (keys_of book.catalogue)) (told : HoldsHistory book h) where
  same_sum : (f : Sealed → ℕ) (g : Blob → ℕ) → ((s : Sealed) (blob : Blob) → Represents book.width s blob → IsLostInside book.width blob → f s ≡ g blob) → total f book.catalogue ≡ sum_of g (state_of h)
  same_sum f g alike =
      sum_with f book.catalogue
      ∙ ap (sum_by (λ (p : List ℕ × ℕ). p.1)) (same_by_name f g book.width alike book h refl rises told)
      ∙ sym (sum_with g (finite.entries (state_of h).names))

  pub same_blobs : length book.catalogue ≡ length (finite.entries (state_of h).names)
  same_blobs =
      sym (length-map book.catalogue (λ e. (e.0, 0)))
      ∙ ap (λ (l : List (List ℕ × ℕ)). length l) (same_by_name (λ s. 0) (λ blob. 0) book.width (λ s blob is inside. refl) book h refl rises told)
      ∙ length-map (finite.entries (state_of h).names) (λ e. (e.0, 0))

  pub same_bytes : total (λ s. s.len) book.catalogue ≡ sum_of (λ blob. length blob.bytes) (state_of h)
  same_bytes = same_sum (λ s. s.len) (λ blob. length blob.bytes) (λ s blob is inside. is.stands.length_is)

  pub same_unrecoverable : total open_count book.catalogue ≡ sum_of (open_stripes book.width) (state_of h)
  same_unrecoverable = same_sum open_count (open_stripes book.width) (λ s blob is inside. sym (open_alike book.width s blob is inside))

-- ---- the lost fragments
one_lost : (b : Bool) (xs : List (ℕ × ℕ)) (x : ℕ × ℕ) (n : ℕ) → length xs ≡ n → length (cond b (xs ++ x ∷ []) xs) ≡ cond b 1 0 + n
one_lost true xs x n is = omega (arith, is, length-append xs (x ∷ []))
one_lost false xs x n is = omega (arith, is)

lost_below : (s : Sealed) (n : ℕ) → length (lacked_below s n) ≡ count_below (λ i. lacks s (i / 16) (i % 16)) n
lost_below s zero = refl
lost_below s (suc n) = one_lost (lacks s (n / 16) (n % 16)) (lacked_below s n) (n / 16, n % 16) _ (lost_below s n)

abbrev item : List ℕ × Sealed → ℕ × ℕ → Item
item e pair = record { name = e.0; version = e.1.version; stripe = pair.0; f = pair.1 }

all_lost : (es : Catalogue) → length (flat_map items_lacked es) ≡ total lacked_count es
all_lost [] = refl
all_lost (e ∷ es) =
    length-append (items_lacked e) (flat_map items_lacked es)
    ∙ (λ i. (length-map (lacked_below e.1 (16 * length e.1.stripes)) (λ (pair : ℕ × ℕ). item e pair) ∙ lost_below e.1 (16 * length e.1.stripes)) i + all_lost es i)
    ∙ sym (sum_by-cons lacked_count e.1 (values_of es))

pub same_lost : (book : Contents) (h : History) → IsStrictlySortedBy name_cmp (keys_of book.catalogue) → HoldsHistory book h → total lacked_count book.catalogue ≡ length (plan_of (state_of h))
same_lost book h rises told = sym (all_lost book.catalogue) ∙ ap (λ (items : List Item). length items) (plan_is book h rises told)

-- ---- the calls
pub same_calls : (book : Contents) (h : History) → HoldsHistory book h → book.base.trimmed + length book.entries ≡ length h
same_calls book h told =
    let t = book.base.trimmed in
    omega (arith, told.long, ap length told.entries, length-map (drop t h) entry_of, length-drop t h)

-- ---- the test of a stripe
pub open_decided : (code : Code) (lost : ℕ → Bool) → MatchBool (has_open code lost) ((f : ℕ) × Open code lost f) ((f : ℕ) → Open code lost f → ⊥)
open_decided code lost = by (has_open code lost) refl
  where
    by : (b : Bool) → has_open code lost ≡ b → MatchBool b ((f : ℕ) × Open code lost f) ((f : ℕ) → Open code lost f → ⊥)
    by true more = (let one = some_open code lost (lt_of 2 (excess_of code lost) more) in (one.0, one.2))
    by false few = λ f opened. (unique code lost).0 (grind (arith, few)) f opened.inside opened
