-- The computed cut is a cut: it covers the range in order, by parts that are not empty and not cut further.
use Rattle.lrc_code.specs.Code.{data_count}
use Rattle.std.proofs.Common.{◌≡◌, ℕ, zero, suc, ◌+◌, ◌-◌, ◌*◌, ◌/◌, ◌%◌, ◌<◌, ◌≤◌, ◌++◌, min, List, [], ◌∷◌, map, refl, sym, ap, ap₂, ◌∙◌, subst, arith, inl, inr}
use Rattle.std.specs.Prelude.{All}
use Rattle.std.specs.List.{range_with_len}
use Rattle.std.proofs.lemmas.Bool.{cases_lt}
use Rattle.std.proofs.Common.{append-nil}
use Rattle.std.proofs.lemmas.List.Elements.{All-cons}
use Rattle.std.proofs.Math.Nat.{mul-le-mul_right}
use Rattle.lrc_code.specs.declared.Code.{Code}
use Rattle.lrc_code.specs.declared.Code.TheVariants.{Wide, Small}
use Rattle.sealed.specs.Layout.{byte_of}
use Rattle.lent.specs.declared.part.Part.{Part}
use Rattle.sealed.specs.Range.{cut_end}
use Rattle.lent.specs.Cut.{IsPart, all_numbers, NeighboursDiffer, IsCut, cut_part, cut}

-- ---- the worked cut: bytes 3 to 8 of a blob in fragments of four
pub worked : cut Wide 4 3 6 ≡ (record { stripe = 0; fragment = 0; from = 3; to = 4 }) ∷ (record { stripe = 0; fragment = 1; from = 0; to = 4 }) ∷ (record { stripe = 0; fragment = 2; from = 0; to = 1 }) ∷ []
worked = refl

pub worked_empty : cut Wide 4 3 0 ≡ []
worked_empty = refl

pub worked_small : cut Small 4 22 6 ≡ (record { stripe = 0; fragment = 5; from = 2; to = 4 }) ∷ (record { stripe = 1; fragment = 0; from = 0; to = 4 }) ∷ []
worked_small = refl

-- ---- ranges of numbers
pub range_split : (a m n : ℕ) → range_with_len a (m + n) ≡ range_with_len a m ++ range_with_len (a + m) n
range_split a zero n = ap₂ range_with_len (let e : a ≡ a + 0 = omega arith in e) (let e : 0 + n ≡ n = omega arith in e)
range_split a (suc m) n =
    ap (λ k. range_with_len a k) (let e : suc m + n ≡ suc (m + n) = omega arith in e)
    ∙ ap (λ (xs : List ℕ). a ∷ xs) (range_split (a + 1) m n)
    ∙ ap (λ b. (a ∷ range_with_len (a + 1) m) ++ range_with_len b n) (let e : a + 1 + m ≡ a + suc m = omega arith in e)

same_range : (a b m n : ℕ) → a ≡ b → m ≡ n → range_with_len a m ≡ range_with_len b n
same_range a b m n e h = ap₂ range_with_len e h

-- a part of the k-th data fragment of a blob lies w * k behind its place there
number_of : (code : Code) (w k p : ℕ) → byte_of code w (k / data_count code) (k % data_count code) p ≡ k * w + p
number_of Wide w k p = (let whole : 12 * (k / 12) + k % 12 ≡ k = omega arith in let e : (12 * (k / 12) + k % 12) * w ≡ k * w = ap (λ n. n * w) whole in omega arith)
number_of Small w k p = (let whole : 6 * (k / 6) + k % 6 ≡ k = omega arith in let e : (6 * (k / 6) + k % 6) * w ≡ k * w = ap (λ n. n * w) whole in omega arith)

times_sum : (k n w : ℕ) → (k + n) * w ≡ k * w + n * w
times_sum k n w = omega arith

next_differs : (code : Code) (k : ℕ) → k / data_count code ≡ (k + 1) / data_count code → k % data_count code ≡ (k + 1) % data_count code → ⊥
next_differs Wide k e h = omega arith
next_differs Small k e h = omega arith

data_fragment : (code : Code) (k : ℕ) → k % data_count code < data_count code
data_fragment Wide k = omega arith
data_fragment Small k = omega arith

-- ---- the parts of n data fragments from the k-th on, of which the last one is where the range ends
module _ (code : Code) (w start end : ℕ) where
  abbrev pub parts : ℕ → ℕ → List Part
  parts k n = map (cut_part code w start end) (range_with_len k n)

  apart : (k n : ℕ) → NeighboursDiffer (parts k n)
  apart k zero = tt
  apart k (suc zero) = tt
  apart k (suc (suc n)) = (λ e h. next_differs code k e h, apart (k + 1) (suc n))

  each : (k n : ℕ) → 1 ≤ w → start < end → start < (k + 1) * w → ((m : ℕ) → n ≡ suc m → (k + m) * w < end) → All (IsPart code w) (parts k n)
  each k zero wide some first last = λ i d l. absurd (omega arith)
  each k (suc n) wide some first last =
      let begun : (k + n) * w < end = last n refl in
      let sum = times_sum k n w in
      let one = times_sum k 1 w in
      let two = times_sum (k + 1) 1 w in
      let here : k * w < end = omega arith in
      All-cons (IsPart code w) (cut_part code w start end k) (parts (k + 1) n)
      (record { some = omega arith; inside = omega arith; holds_data = data_fragment code k })
      (each (k + 1) n wide some (omega arith) (λ m e. subst (λ x. x * w < end) (let same : k + suc m ≡ k + 1 + m = omega arith in same) (last (suc m) (ap suc e))))

  pub covers : (k n : ℕ) → start < end → start < (k + 1) * w → end ≤ (k + n) * w → ((m : ℕ) → n ≡ suc m → (k + m) * w < end)
      → all_numbers code w (parts k n) ≡ range_with_len (k * w + (start - k * w)) (end - (k * w + (start - k * w)))
  covers k zero some first past last =
      let sum = times_sum k 0 w in
      same_range (k * w + (start - k * w)) (k * w + (start - k * w)) 0 _ refl (let e : 0 ≡ end - (k * w + (start - k * w)) = omega arith in e)
  covers k (suc zero) some first past last =
      let begun : (k + 0) * w < end = last 0 refl in
      let sum = times_sum k 0 w in
      let one = times_sum k 1 w in
      append-nil _ ∙ same_range _ _ _ _ (number_of code w k (start - k * w))
      (let e : min w (end - k * w) - (start - k * w) ≡ end - (k * w + (start - k * w)) = omega arith in e)
  covers k (suc (suc n)) some first past last =
      let begun : (k + suc n) * w < end = last (suc n) refl in
      let sum : (k + suc n) * w ≡ (k + 1) * w + n * w = ap (λ x. x * w) (let same : k + suc n ≡ k + 1 + n = omega arith in same) ∙ times_sum (k + 1) n w in
      let one = times_sum k 1 w in
      let two = times_sum (k + 1) 1 w in
      let rest : all_numbers code w (parts (k + 1) (suc n)) ≡ range_with_len ((k + 1) * w + (start - (k + 1) * w)) (end - ((k + 1) * w + (start - (k + 1) * w))) =
      covers (k + 1) (suc n) some (omega arith) (subst (λ x. end ≤ x * w) (let same : k + suc (suc n) ≡ k + 1 + suc n = omega arith in same) past)
      (λ m e. subst (λ x. x * w < end) (let same : k + suc m ≡ k + 1 + m = omega arith in same) (last (suc m) (ap suc e))) in
      let a = k * w + (start - k * w) in
      let m = min w (end - k * w) - (start - k * w) in
      let whole : min w (end - k * w) ≡ w = omega arith in
      let next : a + m ≡ (k + 1) * w = omega arith in
      ap₂ (λ (xs ys : List ℕ). xs ++ ys) (same_range _ a m m (number_of code w k (start - k * w)) refl)
      (rest ∙ same_range _ (a + m) _ (end - (a + m)) (let e : (k + 1) * w + (start - (k + 1) * w) ≡ a + m = omega arith in e) (let e : end - ((k + 1) * w + (start - (k + 1) * w)) ≡ end - (a + m) = omega arith in e))
      ∙ sym (range_split a m (end - (a + m)))
      ∙ same_range a a _ _ refl (let e : m + (end - (a + m)) ≡ end - a = omega arith in e)

pub cut_end_is : (w start len : ℕ) → cut_end w start (suc len) ≡ (start + suc len - 1) / w + 1
cut_end_is w start len = grind (arith)

-- the law
pub cut_is : (code : Code) (w start len : ℕ) → 1 ≤ w → IsCut code w start len (cut code w start len)
cut_is code w start zero some =
    let none : start / w - start / w ≡ 0 = omega arith in
    subst (λ n. IsCut code w start 0 (map (cut_part code w start (start + 0)) (range_with_len (start / w) n))) (sym none)
    (record { each = λ i d l. absurd (omega arith); covers = refl; apart = tt })
cut_is code w start (suc len) some =
    let end = start + suc len in
    let k = start / w in
    let l = (start + suc len - 1) / w in
    let first : w * k + start % w ≡ start = omega arith in
    let under : start % w < w = omega arith in
    let last : w * l + (end - 1) % w ≡ end - 1 = omega arith in
    let under_last : (end - 1) % w < w = omega arith in
    let rising : k ≤ l = elim (cases_lt l k) [
      | inl less ↦ (let more : (l + 1) * w ≤ k * w = mul-le-mul_right w (omega arith) in absurd (omega arith))
      | inr fine ↦ fine
    ] in
    let m = l - k in
    let count : cut_end w start (suc len) - k ≡ suc m = (let ended = cut_end_is w start len in omega arith) in
    let ends : k + suc m ≡ l + 1 = omega arith in
    let one = times_sum k 1 w in
    let two = times_sum l 1 w in
    let top : (k + suc m) * w ≡ (l + 1) * w = ap (λ x. x * w) ends in
    let last_begins : (k + m) * w ≡ l * w = ap (λ x. x * w) (let e : k + m ≡ l = omega arith in e) in
    subst (λ n. IsCut code w start (suc len) (map (cut_part code w start end) (range_with_len k n))) (sym count)
    (record {
      each = each code w start end k (suc m) some (omega arith) (omega arith) (λ x e. (let same : m ≡ x = omega arith in let at : (k + x) * w ≡ l * w = ap (λ y. (k + y) * w) (sym same) ∙ last_begins in omega arith));
      covers =
          covers code w start end k (suc m) (omega arith) (omega arith) (omega arith) (λ x e. (let same : m ≡ x = omega arith in let at : (k + x) * w ≡ l * w = ap (λ y. (k + y) * w) (sym same) ∙ last_begins in omega arith))
          ∙ same_range _ start _ (suc len) (let e : k * w + (start - k * w) ≡ start = omega arith in e) (let e : end - (k * w + (start - k * w)) ≡ suc len = omega arith in e);
      apart = apart code w start end k (suc m);
    })
