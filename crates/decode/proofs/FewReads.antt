-- What a plan reads has weight for a fragment that is chosen.
use Rattle.lrc_code.specs.declared.Code.{Code}
use Rattle.std.proofs.Common.{◌≡◌, ◌≢◌, ℕ, zero, suc, ◌<◌, ◌≤◌, Bool, true, false, not, List, [], ◌∷◌, Option, Some, None, IfSome, IsSomeAnd, MatchOption, length, get_or, refl, sym, ap, ◌∙◌, subst, arith, inl, inr, length-append}
use Rattle.std.specs.Prelude.{count_by, slice_index_or}
use Rattle.std.proofs.lemmas.Bool.{cases_Bool, ne_eqb, and_parts, not-true, not_from_true, not_from_false, false_from_ne_true, true≢false}
use Rattle.gf256.specs.Field.{product}
use Rattle.gf256.proofs.Laws.{product-zero_left}
use Rattle.kernels.proofs.Sums.{xor_sum_zero}
use Rattle.kernels.proofs.GroupLemmas.{each_of_four}
use Rattle.lrc_code.specs.Code.{fragment_count, data_count, weight, first_group, second_group, all_fragments, is_lost, is_alone, is_only_lost_of}
use Rattle.lrc_code.specs.Count.{count_below}
use Rattle.lrc_code.specs.Factors.{factored_weight}
use Rattle.lrc_code.specs.Recipe.{terms, term_at}
use Rattle.lrc_code.proofs.Checks.{in_group}
use Rattle.lrc_code.proofs.Count.{count_same}
use Rattle.lrc_code.proofs.LostCounts.{side}
use Rattle.lrc_code.proofs.Recoverable.{member_first, member_second}
use Rattle.decode.specs.DecodePlan.{IsRest, WeighSomething, at_target}
use Rattle.decode.specs.FewReads.{HasFewReads, is_member, AreMates, HasMate, AreAlone, read_count}
use Rattle.decode.proofs.Least.{count_all}

-- ---- the fragments that weigh something beside f
module _ (r : ℕ → ℕ) (f n : ℕ) (read : ℕ → Bool) (each : (i : ℕ) → i < n → read i ≡ true → (i ≢ f) × (r i ≢ 0)) where
  one_term : (i : ℕ) → i ≢ f → r i ≢ 0 → length (term_at r f i) ≡ 1
  one_term i other some = rw (ne_eqb i f other, ne_eqb (r i) 0 some) refl

  pub reads_are_terms : (m : ℕ) → m ≤ n → count_below read m ≤ length (terms r f m)
  unfolding terms
  reads_are_terms zero l = omega arith
  reads_are_terms (suc m) l =
      let rest = reads_are_terms m (omega arith) in
      let both = length-append (terms r f m) (term_at r f m) in
      elim (cases_Bool (read m)) [
        | inl is_read ↦ let one = one_term m (each m (omega arith) is_read).0 (each m (omega arith) is_read).1 in rw is_read (omega (arith, rest, both, one))
        | inr not_read ↦ rw not_read (omega (arith, rest, both))
      ]

-- ---- what the equation of a group weighs
in_first : (code : Code) (i : ℕ) → i < fragment_count code → weight code 0 i ≢ 0 → is_member (first_group code) i ≡ true
in_first code i l some = elim (side code i l).first [ inl none ↦ absurd (some none) | inr one ↦ member_first code i l one ]

in_second : (code : Code) (i : ℕ) → i < fragment_count code → weight code 1 i ≢ 0 → is_member (second_group code) i ≡ true
in_second code i l some = elim (side code i l).second [ inl none ↦ absurd (some none) | inr one ↦ member_second code i l one ]

only_is_member : (lost : ℕ → Bool) (group : List ℕ) (f : ℕ) → is_only_lost_of lost group f ≡ true → is_member group f ≡ true
unfolding is_only_lost_of
only_is_member lost group f h = (and_parts (is_member group f) _ (and_parts (lost f) _ h).1).0

-- a fragment that shares give weight to is of the group of their fragment
mates : (code : Code) (lost : ℕ → Bool) (f i : ℕ) (shares : List ℕ) → HasFewReads code lost f shares → is_alone code lost f ≡ true → i < fragment_count code → i ≢ f
    → factored_weight code shares i ≢ 0 → AreMates code f i
mates code lost f i shares few alone l other some =
    elim (in_group lost code f alone) [
      | inl h ↦ (other, inl (only_is_member lost (first_group code) f h, in_first code i l (λ none. some (few.first h i l ∙ none))))
      | inr h ↦ (other, inr (only_is_member lost (second_group code) f h, in_second code i l (λ none. some (few.second h i l ∙ none))))
    ]

pub nothing_weighs : (code : Code) (i : ℕ) → factored_weight code (0 ∷ 0 ∷ 0 ∷ 0 ∷ []) i ≡ 0
nothing_weighs code i = xor_sum_zero 4 _ (each_of_four (λ e. product (get_or (0 ∷ 0 ∷ 0 ∷ 0 ∷ []) e 0) (weight code e i) ≡ 0) (product-zero_left _) (product-zero_left _) (product-zero_left _) (product-zero_left _))

-- what the shares of one target read
abbrev pub AreReadsOf : Code → (ℕ → Bool) → Option ℕ → List ℕ → Type 0
AreReadsOf code lost chosen shares = MatchOption chosen (shares ≡ 0 ∷ 0 ∷ 0 ∷ 0 ∷ []) (λ f. HasFewReads code lost f shares)

mate_of : (code : Code) (lost : ℕ → Bool) (chosen : Option ℕ) (shares : List ℕ) (i : ℕ) → AreReadsOf code lost chosen shares → IfSome chosen (λ f. is_alone code lost f ≡ true) → IfSome chosen (λ f. lost f ≡ true)
    → i < fragment_count code → lost i ≡ false → factored_weight code shares i ≢ 0 → IsSomeAnd chosen (λ f. AreMates code f i)
mate_of code lost None shares i are alone gone l left some = absurd (some (subst (λ s. factored_weight code s i ≡ 0) (sym are) (nothing_weighs code i)))
mate_of code lost (Some f) shares i are alone gone l left some = mates code lost f i shares are alone l (λ same. true≢false (sym gone ∙ sym (ap lost same) ∙ left)) some

module _ (code : Code) (lost missing : ℕ) (chosen : List (Option ℕ)) (shares : List (List ℕ)) (read : WeighSomething code lost missing shares)
    (gone : (k : ℕ) → k < 4 → IfSome (slice_index_or chosen k None) (λ f. is_lost lost f ≡ true))
    (are : (k : ℕ) → k < 4 → AreReadsOf code (is_lost lost) (slice_index_or chosen k None) (at_target shares k)) where
  pub near : AreAlone code (is_lost lost) chosen → (i : ℕ) → i < fragment_count code → is_lost missing i ≡ false → HasMate code chosen i
  near alone i l here =
      let it = read i l here in
      let k = it.1.0 in
      (k, it.1.1, mate_of code (is_lost lost) (slice_index_or chosen k None) (at_target shares k) i (are k it.1.1) (alone k it.1.1) (gone k it.1.1) l it.0 it.1.2)

  -- target k, if f alone is chosen
  only_at : (f : ℕ) → chosen ≡ Some f ∷ None ∷ None ∷ None ∷ [] → (k : ℕ) → k < 4 → AreReadsOf code (is_lost lost) (slice_index_or (Some f ∷ None ∷ None ∷ None ∷ []) k None) (at_target shares k)
  only_at f only k l = subst (λ c. AreReadsOf code (is_lost lost) (slice_index_or c k None) (at_target shares k)) only (are k l)

  -- what weighs something does so at the first target if no other is chosen
  at_first : (f : ℕ) → chosen ≡ Some f ∷ None ∷ None ∷ None ∷ [] → (i k : ℕ) → k < 4 → factored_weight code (at_target shares k) i ≢ 0 → factored_weight code (at_target shares 0) i ≢ 0
  at_first f only i k l some =
      let none : (j : ℕ) → at_target shares j ≡ 0 ∷ 0 ∷ 0 ∷ 0 ∷ [] → factored_weight code (at_target shares j) i ≡ 0 =
      λ j e. ap (λ s. factored_weight code s i) e ∙ nothing_weighs code i in
      each_of_four (λ j. factored_weight code (at_target shares j) i ≢ 0 → factored_weight code (at_target shares 0) i ≢ 0)
      (λ s. s) (λ s. absurd (s (none 1 (only_at f only 1 (omega arith))))) (λ s. absurd (s (none 2 (only_at f only 2 (omega arith))))) (λ s. absurd (s (none 3 (only_at f only 3 (omega arith))))) k l some

  pub few : (f : ℕ) → chosen ≡ Some f ∷ None ∷ None ∷ None ∷ [] → read_count code (is_lost missing) ≤ data_count code
  few f only =
      let shares0 = at_target shares 0 in
      let its : HasFewReads code (is_lost lost) f shares0 = only_at f only 0 (omega arith) in
      let f_lost : is_lost lost f ≡ true = subst (λ c. IfSome (slice_index_or c 0 None) (λ f. is_lost lost f ≡ true)) only (gone 0 (omega arith)) in
      let each : (i : ℕ) → i < fragment_count code → not (is_lost missing i) ≡ true → (i ≢ f) × (factored_weight code shares0 i ≢ 0) =
      λ i l here. let it = read i l (not-true (is_lost missing i) here) in (λ same. true≢false (sym f_lost ∙ sym (ap (is_lost lost) same) ∙ it.0), at_first f only i it.1.0 it.1.1 it.1.2) in
      omega (arith, its.short, count_all code (λ i. not (is_lost missing i)), reads_are_terms (factored_weight code shares0) f (fragment_count code) (λ i. not (is_lost missing i)) each (fragment_count code) (omega arith))

-- a set of what is read has as many
pub read_count_of : (code : Code) (reads missing : ℕ) → IsRest code missing reads → count_by (is_lost reads) (all_fragments code) ≡ read_count code (is_lost missing)
read_count_of code reads missing rest =
    count_all code (is_lost reads)
    ∙ count_same (is_lost reads) (λ i. not (is_lost missing i)) (fragment_count code)
    (λ i l. elim (cases_Bool (is_lost missing i)) [
      | inl gone ↦ false_from_ne_true (is_lost reads i) (λ read. true≢false (sym gone ∙ ((rest i).0 read).1)) ∙ sym (not_from_true (is_lost missing i) gone)
      | inr here ↦ (rest i).1 (l, here) ∙ sym (not_from_false (is_lost missing i) here)
    ])
    ∙ sym (count_all code (λ i. not (is_lost missing i)))
