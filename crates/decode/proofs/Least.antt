-- Where fewer fragments remain than the code has data fragments, more are lost than the global parities make up for.
use Rattle.std.proofs.Common.{◌≡◌, ℕ, zero, suc, ◌+◌, ◌-◌, ◌<◌, ◌≤◌, Bool, true, false, not, length, refl, arith, inl, inr}
use Rattle.std.specs.Prelude.{count_by}
use Rattle.std.proofs.lemmas.Bool.{cases_Bool}
use Rattle.std.proofs.lemmas.List.Sums.{count_by-le-length}
use Rattle.lrc_code.specs.declared.Code.{Code}
use Rattle.lrc_code.specs.declared.Code.TheVariants.{Wide, Small}
use Rattle.lrc_code.specs.Code.{fragment_count, data_count, first_group, second_group, globals, all_fragments, excess_of, is_alone, Open}
use Rattle.lrc_code.specs.Count.{count_below}
use Rattle.lrc_code.proofs.Columns.{count_with_parities}
use Rattle.lrc_code.proofs.LostCounts.{first_count, second_count, global_count, whole_count}
use Rattle.lrc_code.proofs.Recoverable.{open_here}

pub count_all : (code : Code) (t : ℕ → Bool) → count_by t (all_fragments code) ≡ count_below t (fragment_count code)
count_all Wide t = omega arith
count_all Small t = omega arith

-- the fragments that remain and those that are lost
counts_both : (t : ℕ → Bool) (n : ℕ) → count_below (λ i. not (t i)) n + count_below t n ≡ n
counts_both t zero = refl
counts_both t (suc n) =
    let rest = counts_both t n in
    elim (cases_Bool (t n)) [ inl here ↦ rw here (omega (arith, rest)) | inr not_here ↦ rw not_here (omega (arith, rest)) ]

globals_two : (code : Code) → length (globals code) ≡ 2
globals_two Wide = refl
globals_two Small = refl

crowded : (a b g lost left n d : ℕ) → g ≤ 2 → lost ≡ a + b + g → left + lost ≡ n → n ≡ d + 4 → left < d → 2 < (a - 1) + (b - 1) + g
crowded a b g lost left n d few is both size less = omega arith

pub open_of_few : (code : Code) (lost : ℕ → Bool) (f : ℕ) → f < fragment_count code → lost f ≡ true → is_alone code lost f ≡ false
    → count_by (λ i. not (lost i)) (all_fragments code) < data_count code → Open code lost f
unfolding excess_of
open_of_few code lost f l here alone less =
    let g : count_by lost (globals code) ≤ 2 = omega (arith, count_by-le-length lost (globals code), globals_two code) in
    let whole : count_below lost (fragment_count code) ≡ count_by lost (first_group code) + count_by lost (second_group code) + count_by lost (globals code) =
    omega (arith, whole_count code lost, first_count code lost, second_count code lost, global_count code lost) in
    let both : count_by (λ i. not (lost i)) (all_fragments code) + count_below lost (fragment_count code) ≡ fragment_count code =
    omega (arith, counts_both lost (fragment_count code), count_all code (λ i. not (lost i))) in
    open_here code lost f l here alone
    (crowded (count_by lost (first_group code)) (count_by lost (second_group code)) (count_by lost (globals code)) (count_below lost (fragment_count code))
    (count_by (λ i. not (lost i)) (all_fragments code)) (fragment_count code) (data_count code) g whole both (count_with_parities code) less)
