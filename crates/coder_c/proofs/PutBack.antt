-- A fragment that is alone lost in its group is rebuilt and put back, and the others are decoded from it too.
use Rattle.std.proofs.Common.{◌≡◌, ◌≢◌, ◌⊎◌, ℕ, ◌+◌, ◌-◌, ◌<◌, ◌≤◌, Bool, true, false, not, cond, eqb, ltb, List, [], ◌∷◌, Option, Some, None, Bor, IfSome, IsSomeAnd, MatchOption, bit_xor, length, map, set, refl, sym, ap, ◌∙◌, subst, arith, inl, inr, eqb-true, ltb-true}
use Rattle.std.specs.Prelude.{slice_index, slice_index_or, slice_range}
use Rattle.std.specs.List.{range_with_len}
use Rattle.std.proofs.lemmas.Bool.{cases_Bool, cases_eq, true≢false, eq-eqb, ne_eqb, and_parts}
use Rattle.std.proofs.lemmas.List.{length-set, get_or-set_same, get_or-set_other}
use Rattle.std.proofs.lemmas.List.FromFn.{get_or-map-range_with_len, length-map-range_with_len}
use Rattle.std.proofs.lemmas.List.Edits.{length-between, get_or-between}
use Rattle.std.proofs.lemmas.Grind.{same_number_lists}
use lib.Bits.{xor_zero_r}
use Rattle.gf256.specs.Field.{product, carryless_product, reduced}
use Rattle.gf256.proofs.Laws.{product-lt, product-zero_left, product-zero_right, zero_from_product}
use Rattle.kernels.proofs.GroupLemmas.{each_of_four}
use Rattle.kernels.proofs.Sums.{xor_sum_same, xor_sum_zero, xor_sum_split, xor_sum-lt}
use Rattle.lrc_code.specs.declared.Code.{Code}
use Rattle.lrc_code.specs.declared.Code.TheVariants.{Wide}
use Rattle.lrc_code.specs.Code.{xor_sum, weight, weights, is_lost, is_alone, is_only_lost_of, IsColumn, Open}
use Rattle.lrc_code.specs.Column.{column}
use Rattle.lrc_code.specs.Factors.{factored_weight}
use Rattle.lrc_code.specs.Stripe.{list_at, RebuildsFrom}
use Rattle.lrc_code.proofs.Checks.{determined_first, determined_second, one_in_first, one_in_second, in_group}
use Rattle.lrc_code.proofs.Columns.{column_is}
use Rattle.lrc_code.proofs.Computed.{test_below, passes_below}
use Rattle.lrc_code.proofs.LostCounts.{side}
use Rattle.lrc_code.proofs.Witness.{weight-lt}
use Rattle.syndromes.specs.Syndromes.{column_at, list_byte, HasSums, HaveBytes}
use Rattle.decode.specs.Syndrome.{syndrome, AreShares}
use Rattle.decode.specs.DecodePlan.{IsPlanned}
use Rattle.decode.proofs.Equations.{remainder_bytes}
use Rattle.decode.proofs.Planned.{by_fragments, shares_same, given_not_open}
use Rattle.coder_c.specs.declared.wanted.Wanted.{Wanted}
use Rattle.coder_c.specs.Call.{DecodesLost, RebuildsLost, HasRoomFor}
use Rattle.coder_c.specs.Groups.{less_group}
use Rattle.coder_c.specs.Wanted.{DecodesWanted, GivesLost}
use Rattle.coder_c.proofs.Chosen.{decodes_same}
use Rattle.coder_c.proofs.Direct.{rebuilds_direct}

-- ---- a column that is 0 outside a group, and at none of the group's fragments
record IsGroupColumn (e : ℕ) (z : ℕ → ℕ) : Type 0 where
  pub is : IsColumn Wide z
  pub outside : (i : ℕ) → i < 16 → weight Wide e i ≡ 0 → z i ≡ 0
  pub inside : (i : ℕ) → i < 16 → weight Wide e i ≡ 1 → z i ≢ 0

abbrev first_data : ℕ → ℕ
first_data = slice_index (1 ∷ 1 ∷ 1 ∷ 1 ∷ 196 ∷ 83 ∷ 0 ∷ 0 ∷ 0 ∷ 0 ∷ 0 ∷ 0 ∷ [])

abbrev second_data : ℕ → ℕ
second_data = slice_index (0 ∷ 0 ∷ 0 ∷ 0 ∷ 0 ∷ 0 ∷ 1 ∷ 1 ∷ 1 ∷ 1 ∷ 196 ∷ 83 ∷ [])

abbrev is_in_group : ℕ → (ℕ → ℕ) → Bool
is_in_group e d = test_below (λ i. cond (eqb (weight Wide e i) 0) (eqb (column Wide d i) 0) (not (eqb (column Wide d i) 0))) 16

abbrev are_bytes : (ℕ → ℕ) → Bool
are_bytes d = test_below (λ i. ltb (d i) 256) 12

first_in_group : is_in_group 0 first_data ≡ true
unfolding xor_sum weight weights product carryless_product reduced
first_in_group = refl

second_in_group : is_in_group 1 second_data ≡ true
unfolding xor_sum weight weights product carryless_product reduced
second_in_group = refl

zero≢one : {i : ℕ} → i ≡ 0 → i ≡ 1 → ⊥
zero≢one z o = let bad : ◌≡◌ {A = ℕ} 0 1 = sym z ∙ o in absurd (omega arith)

group_column : (e : ℕ) (d : ℕ → ℕ) → are_bytes d ≡ true → is_in_group e d ≡ true → IsGroupColumn e (column Wide d)
group_column e d bytes tested =
    let at : (i : ℕ) → i < 16 → cond (eqb (weight Wide e i) 0) (eqb (column Wide d i) 0) (not (eqb (column Wide d i) 0)) ≡ true =
    passes_below (λ i. cond (eqb (weight Wide e i) 0) (eqb (column Wide d i) 0) (not (eqb (column Wide d i) 0))) 16 tested in
    record {
      is = column_is Wide d (λ i l. ltb-true _ _ (passes_below (λ i. ltb (d i) 256) 12 bytes i l));
      outside = λ i l none. eqb-true (column Wide d i) 0 (sym (ap (λ t. cond t (eqb (column Wide d i) 0) (not (eqb (column Wide d i) 0))) (eq-eqb (weight Wide e i) 0 none)) ∙ at i l);
      inside = λ i l one zero.
          let some : eqb (weight Wide e i) 0 ≡ false = ne_eqb (weight Wide e i) 0 (λ none. zero≢one none one) in
          true≢false (sym (at i l) ∙ ap (λ t. cond t (eqb (column Wide d i) 0) (not (eqb (column Wide d i) 0))) some ∙ ap not (eq-eqb (column Wide d i) 0 zero));
    }

-- ---- a fragment that is alone lost in a group
-- f is of group e, and no other lost fragment is
pub record IsAloneIn (lost : ℕ → Bool) (f e : ℕ) : Type 0 where
  pub one : weight Wide e f ≡ 1
  pub apart : (i : ℕ) → i < 16 → lost i ≡ true → i ≢ f → weight Wide e i ≡ 0

pub alone_in_one : (lost : ℕ → Bool) (f : ℕ) → f < 16 → is_alone Wide lost f ≡ true → (IsAloneIn lost f 0) ⊎ (IsAloneIn lost f 1)
alone_in_one lost f l alone =
    elim (in_group lost Wide f alone) [
      | inl first ↦ inl (record { one = one_in_first Wide lost f l first; apart = (determined_first Wide lost f l first).only_left })
      | inr second ↦ inr (record { one = one_in_second Wide lost f l second; apart = (determined_second Wide lost f l second).only_left })
    ]

pub alone_lost : (lost : ℕ → Bool) (f : ℕ) → is_alone Wide lost f ≡ true → lost f ≡ true
unfolding is_only_lost_of
alone_lost lost f alone = elim (in_group lost Wide f alone) [ inl h ↦ (and_parts (lost f) _ h).0 | inr h ↦ (and_parts (lost f) _ h).0 ]

-- one that is not alone is another
pub not_the_alone : (lost : ℕ → Bool) (f : ℕ) (chosen : Option ℕ) → is_alone Wide lost f ≡ true → IfSome chosen (λ g. is_alone Wide lost g ≡ false) → (g : ℕ) → chosen ≡ Some g → g ≢ f
not_the_alone lost f chosen alone other g is same =
    let none : is_alone Wide lost g ≡ false = subst (λ o. IfSome o (λ h. is_alone Wide lost h ≡ false)) is other in
    true≢false (sym alone ∙ ap (is_alone Wide lost) (sym same) ∙ none)

-- where it weighs 1, no other lost fragment weighs anything
apart_first : (lost : ℕ → Bool) (f : ℕ) → f < 16 → is_alone Wide lost f ≡ true → weight Wide 0 f ≡ 1 → (i : ℕ) → i < 16 → lost i ≡ true → i ≢ f → weight Wide 0 i ≡ 0
apart_first lost f l alone one =
    elim (alone_in_one lost f l alone) [
      | inl here ↦ here.apart
      | inr there ↦ absurd (elim (side Wide f l).not_both [ inl z ↦ zero≢one z one | inr z ↦ zero≢one z there.one ])
    ]

apart_second : (lost : ℕ → Bool) (f : ℕ) → f < 16 → is_alone Wide lost f ≡ true → weight Wide 1 f ≡ 1 → (i : ℕ) → i < 16 → lost i ≡ true → i ≢ f → weight Wide 1 i ≡ 0
apart_second lost f l alone one =
    elim (alone_in_one lost f l alone) [
      | inl there ↦ absurd (elim (side Wide f l).not_both [ inl z ↦ zero≢one z there.one | inr z ↦ zero≢one z one ])
      | inr here ↦ here.apart
    ]

-- shares that give another lost fragment weigh it by nothing
module _ (lost : ℕ → Bool) (f g : ℕ) (shares : List ℕ) (small : (e : ℕ) → e < 4 → slice_index shares e < 256) (fl : f < 16) (gl : g < 16) (here : lost f ≡ true) (gone : lost g ≡ true) (other : g ≢ f)
    (are : AreShares Wide lost g shares) where
  abbrev weighed : ℕ → ℕ
  weighed = factored_weight Wide shares

  weighed-lt : weighed f < 256
  weighed-lt = xor_sum-lt 4 (λ e. product (slice_index shares e) (weight Wide e f)) (λ e l. product-lt _ _ (small e l) (weight-lt Wide e f l (omega arith)))

  by_column : (e : ℕ) (z : ℕ → ℕ) → IsGroupColumn e z → IsAloneIn lost f e → weighed f ≡ 0
  by_column e z it alone =
      let b : ℕ → ℕ = λ i. cond (lost i) 0 (z i) in
      let bytes : (i : ℕ) → i < 16 → b i < 256 = remainder_bytes Wide lost z b it.is (λ i l. refl) in
      let term : ℕ → ℕ = λ i. product (z i) (weighed i) in
      let none : xor_sum 16 (λ i. product (b i) (weighed i)) ≡ 0 =
      sym (by_fragments Wide shares small b bytes) ∙ sym (are z b it.is (λ i l. refl)) ∙ it.outside g gl (alone.apart g gl gone other) in
      let whole : xor_sum 16 term ≡ 0 =
      sym (by_fragments Wide shares small z it.is.bytes)
      ∙ xor_sum_zero 4 (λ e. product (slice_index shares e) (syndrome Wide e z)) (λ e l. ap (product (slice_index shares e)) (it.is.sums e l) ∙ product-zero_right (slice_index shares e)) in
      let others : (i : ℕ) → i < 16 → cond (eqb i f) 0 (term i) ≡ product (b i) (weighed i) =
      λ i l. elim (cases_eq i f) [
        | inl same ↦
            ap (λ t. cond t 0 (term i)) (eq-eqb i f same)
            ∙ sym (ap (λ t. product (cond t 0 (z i)) (weighed i)) (subst (λ j. lost j ≡ true) (sym same) here) ∙ product-zero_left (weighed i))
        | inr differ ↦
            ap (λ t. cond t 0 (term i)) (ne_eqb i f differ)
            ∙ elim (cases_Bool (lost i)) [
              | inl on ↦
                  ap (λ x. product x (weighed i)) (it.outside i l (alone.apart i l on differ) ∙ sym (ap (λ t. cond t 0 (z i)) on))
              | inr off ↦ ap (λ x. product x (weighed i)) (sym (ap (λ t. cond t 0 (z i)) off))
            ]
      ] in
      let own : product (z f) (weighed f) ≡ 0 =
      sym (xor_zero_r (term f))
      ∙ ap (bit_xor (term f)) (sym none ∙ sym (xor_sum_same 16 _ _ others))
      ∙ sym (xor_sum_split 16 f term fl)
      ∙ whole in
      elim (zero_from_product (z f) (weighed f) (it.is.bytes f fl) weighed-lt own) [
        | inl zero ↦ absurd (it.inside f fl alone.one zero)
        | inr zero ↦ zero
      ]

  pub weighs_nothing : is_alone Wide lost f ≡ true → weighed f ≡ 0
  weighs_nothing alone =
      elim (alone_in_one lost f fl alone) [
        | inl first ↦ by_column 0 (column Wide first_data) (group_column 0 first_data refl first_in_group) first
        | inr second ↦ by_column 1 (column Wide second_data) (group_column 1 second_data refl second_in_group) second
      ]

-- ---- shares for fewer lost fragments
module _ (lost left : ℕ → Bool) (g : ℕ) where
  -- shares give a fragment also from more fragments, if those that are put back weigh nothing
  pub from_more : (shares : List ℕ) → ((e : ℕ) → e < 4 → slice_index shares e < 256) → ((i : ℕ) → i < 16 → left i ≡ true → lost i ≡ true)
      → ((i : ℕ) → i < 16 → lost i ≡ true → left i ≡ false → factored_weight Wide shares i ≡ 0) → AreShares Wide lost g shares → AreShares Wide left g shares
  from_more shares small all back are c b is rest =
      let d : ℕ → ℕ = λ i. cond (lost i) 0 (c i) in
      let w : ℕ → ℕ = factored_weight Wide shares in
      let same : (i : ℕ) → i < 16 → product (d i) (w i) ≡ product (b i) (w i) =
      λ i l. elim (cases_Bool (lost i)) [
        | inl lo ↦ elim (cases_Bool (left i)) [
          | inl le ↦ ap (λ t. product t (w i)) (ap (λ t. cond t 0 (c i)) lo ∙ sym (rest i l ∙ ap (λ t. cond t 0 (c i)) le))
          | inr off ↦ ap (product (d i)) (back i l lo off) ∙ product-zero_right (d i) ∙ sym (ap (product (b i)) (back i l lo off) ∙ product-zero_right (b i))
        ]
        | inr here ↦ elim (cases_Bool (left i)) [
          | inl le ↦ absurd (true≢false (sym (all i l le) ∙ here))
          | inr off ↦ ap (λ t. product t (w i)) (ap (λ t. cond t 0 (c i)) here ∙ sym (rest i l ∙ ap (λ t. cond t 0 (c i)) off))
        ]
      ] in
      are c d is (λ i l. refl)
      ∙ by_fragments Wide shares small d (remainder_bytes Wide lost c d is (λ i l. refl))
      ∙ xor_sum_same 16 _ _ same
      ∙ sym (by_fragments Wide shares small b (remainder_bytes Wide left c b is rest))

  -- the share of a syndrome is the same, or none that is left weighs anything there
  abbrev IsFewer : List ℕ → List ℕ → ℕ → Type 0
  IsFewer shares fewer e = (slice_index fewer e ≡ slice_index shares e) ⊎ ((i : ℕ) → i < 16 → left i ≡ true → weight Wide e i ≡ 0)

  -- the syndrome of a group of which nothing is lost is 0, and need not be taken
  pub fewer_shares : (shares fewer : List ℕ) → ((e : ℕ) → e < 4 → IsFewer shares fewer e)
      → AreShares Wide left g shares → AreShares Wide left g fewer
  fewer_shares shares fewer each are c b is rest =
      are c b is rest
      ∙ xor_sum_same 4 _ _ (λ e l. elim (each e l) [
        | inl same ↦ ap (λ s. product s (syndrome Wide e b)) (sym same)
        | inr none ↦
            let zero : syndrome Wide e b ≡ 0 =
            xor_sum_same 16 _ _ (λ i m. elim (cases_Bool (left i)) [
              | inl le ↦ ap (λ w. product w (b i)) (none i m le) ∙ product-zero_left (b i) ∙ sym (ap (λ w. product w (c i)) (none i m le) ∙ product-zero_left (c i))
              | inr off ↦ ap (product (weight Wide e i)) (rest i m ∙ ap (λ t. cond t 0 (c i)) off)
            ])
            ∙ is.sums e l in
            ap (product (slice_index shares e)) zero ∙ product-zero_right (slice_index shares e)
            ∙ sym (ap (product (slice_index fewer e)) zero ∙ product-zero_right (slice_index fewer e))
      ])

  -- by the shares that are left once f is back
  pub less_shares : (shares : List ℕ) (f : ℕ) → f < 16 → is_alone Wide lost f ≡ true → ((i : ℕ) → i < 16 → left i ≡ true → (lost i ≡ true) × (i ≢ f))
      → AreShares Wide left g shares → AreShares Wide left g (less_group shares f)
  less_shares shares f fl alone apart =
      elim (cases_Bool (eqb (weight Wide 0 f) 1)) [
        | inl first ↦
            let one : weight Wide 0 f ≡ 1 = eqb-true _ _ first in
            let is : less_group shares f ≡ 0 ∷ slice_index shares 1 ∷ slice_index shares 2 ∷ slice_index shares 3 ∷ [] = rw first refl in
            λ are. subst (AreShares Wide left g) (sym is)
            (fewer_shares shares (0 ∷ slice_index shares 1 ∷ slice_index shares 2 ∷ slice_index shares 3 ∷ []) (each_of_four (IsFewer shares (0 ∷ slice_index shares 1 ∷ slice_index shares 2 ∷ slice_index shares 3 ∷ [])) (inr (λ i l le. apart_first lost f fl alone one i l (apart i l le).0 (apart i l le).1)) (inl refl) (inl refl) (inl refl)) are)
        | inr other ↦ elim (cases_Bool (eqb (weight Wide 1 f) 1)) [
          | inl second ↦
              let one : weight Wide 1 f ≡ 1 = eqb-true _ _ second in
              let is : less_group shares f ≡ slice_index shares 0 ∷ 0 ∷ slice_index shares 2 ∷ slice_index shares 3 ∷ [] = rw (other, second) refl in
              λ are. subst (AreShares Wide left g) (sym is)
              (fewer_shares shares (slice_index shares 0 ∷ 0 ∷ slice_index shares 2 ∷ slice_index shares 3 ∷ []) (each_of_four (IsFewer shares (slice_index shares 0 ∷ 0 ∷ slice_index shares 2 ∷ slice_index shares 3 ∷ [])) (inl refl) (inr (λ i l le. apart_second lost f fl alone one i l (apart i l le).0 (apart i l le).1)) (inl refl) (inl refl)) are)
          | inr neither ↦
              let is : less_group shares f ≡ shares = rw (other, neither) refl in
              λ are. subst (AreShares Wide left g) (sym is) are
        ]
      ]

-- ---- the bytes that are put back
-- bytes as those of a longer list, from..to
abbrev pub moved : ℕ → ℕ → List ℕ → List ℕ
moved from to xs = map (λ k. slice_index xs (k - from)) (range_with_len 0 to)

pub moved_at : (from to k : ℕ) (xs : List ℕ) → from + k < to → slice_index (moved from to xs) (from + k) ≡ slice_index xs k
moved_at from to k xs l =
    let back : from + k - from ≡ k = omega arith in
    get_or-map-range_with_len (λ k. slice_index xs (k - from)) 0 to (from + k) (from + k) 0 l (omega arith) ∙ ap (slice_index xs) back

pub moved_range : (from to : ℕ) (xs : List ℕ) → length xs ≡ to - from → slice_range (moved from to xs) from to ≡ xs
moved_range from to xs long =
    let whole : length (moved from to xs) ≡ to = length-map-range_with_len (λ k. slice_index xs (k - from)) 0 to in
    let cut : length (slice_range (moved from to xs) from to) ≡ to - from = length-between (moved from to xs) from to (omega (arith, whole)) in
    same_number_lists _ _ (cut ∙ sym long)
    (λ k l. let inside : from + k < to = omega (arith, cut) in get_or-between (moved from to xs) from to k 0 inside ∙ moved_at from to k xs inside)

-- ---- decoding from fragments that are put back
-- Of the missing fragments those are left. Each other one is alone lost in its group, and its bytes from..to are made
pub record ArePutBack (fragments : List (List ℕ)) (missing from to : ℕ) (left : ℕ → Bool) (made : ℕ → List ℕ) : Type 0 where
  pub all : (i : ℕ) → i < 16 → left i ≡ true → is_lost missing i ≡ true
  pub kept : (i : ℕ) → i < 16 → is_lost missing i ≡ false → made i ≡ list_at fragments i
  pub alone : (i : ℕ) → i < 16 → is_lost missing i ≡ true → left i ≡ false → is_alone Wide (is_lost missing) i ≡ true
  pub rebuilt : (i : ℕ) → i < 16 → is_lost missing i ≡ true → left i ≡ false → RebuildsLost Wide fragments missing i from to (slice_range (made i) from to)

-- the lists have the bytes from..to of those that are not left
pub record HaveMade (lists : List (Option (Bor (List ℕ)))) (from to : ℕ) (left : ℕ → Bool) (made : ℕ → List ℕ) : Type 0 where
  pub gone : (p k : ℕ) → p < 16 → left p ≡ true → column_at lists k p ≡ 0
  pub here : (p k : ℕ) → p < 16 → k < to - from → left p ≡ false → column_at lists k p ≡ slice_index (made p) (from + k)

-- none is put back, and then f
pub none_back : (fragments : List (List ℕ)) (missing from to : ℕ) → ArePutBack fragments missing from to (is_lost missing) (list_at fragments)
none_back fragments missing from to = record {
  all = λ i l on. on;
  kept = λ i l off. refl;
  alone = λ i l on off. absurd (true≢false (sym on ∙ off));
  rebuilt = λ i l on off. absurd (true≢false (sym on ∙ off));
}

abbrev pub left_after : (ℕ → Bool) → ℕ → ℕ → Bool
left_after left f i = cond (eqb i f) false (left i)

abbrev pub made_after : (ℕ → List ℕ) → ℕ → ℕ → ℕ → List ℕ → ℕ → List ℕ
made_after made from to f xs i = cond (eqb i f) (moved from to xs) (made i)

module _ (from to f : ℕ) (xs : List ℕ) (left : ℕ → Bool) (made : ℕ → List ℕ) where
  pub one_back : (fragments : List (List ℕ)) (missing : ℕ) → ArePutBack fragments missing from to left made → is_lost missing f ≡ true → is_alone Wide (is_lost missing) f ≡ true → length xs ≡ to - from
      → RebuildsLost Wide fragments missing f from to xs → ArePutBack fragments missing from to (left_after left f) (made_after made from to f xs)
  one_back fragments missing are lost alone long rebuilds = record {
    all = λ i l on. elim (cases_eq i f) [
      | inl same ↦ absurd (true≢false (sym on ∙ ap (λ t. cond t false (left i)) (eq-eqb i f same)))
      | inr differ ↦ are.all i l (sym (ap (λ t. cond t false (left i)) (ne_eqb i f differ)) ∙ on)
    ];
    kept = λ i l off. elim (cases_eq i f) [
      | inl same ↦ absurd (true≢false (sym lost ∙ ap (is_lost missing) (sym same) ∙ off))
      | inr differ ↦ ap (λ t. cond t (moved from to xs) (made i)) (ne_eqb i f differ) ∙ are.kept i l off
    ];
    alone = λ i l on off. elim (cases_eq i f) [
      | inl same ↦ subst (λ j. is_alone Wide (is_lost missing) j ≡ true) (sym same) alone
      | inr differ ↦ are.alone i l on (sym (ap (λ t. cond t false (left i)) (ne_eqb i f differ)) ∙ off)
    ];
    rebuilt = λ i l on off. elim (cases_eq i f) [
      | inl same ↦
          subst (λ ys. RebuildsLost Wide fragments missing i from to (slice_range ys from to)) (sym (ap (λ t. cond t (moved from to xs) (made i)) (eq-eqb i f same)))
          (subst (RebuildsLost Wide fragments missing i from to) (sym (moved_range from to xs long)) (subst (λ j. RebuildsLost Wide fragments missing j from to xs) (sym same) rebuilds))
      | inr differ ↦
          subst (λ ys. RebuildsLost Wide fragments missing i from to (slice_range ys from to)) (sym (ap (λ t. cond t (moved from to xs) (made i)) (ne_eqb i f differ)))
          (are.rebuilt i l on (sym (ap (λ t. cond t false (left i)) (ne_eqb i f differ)) ∙ off))
    ];
  }

  pub one_made : (lists : List (Option (Bor (List ℕ)))) (x : Bor (List ℕ)) → x.now ≡ xs → length lists ≡ 16 → f < 16 → from ≤ to → HaveMade lists from to left made
      → HaveMade (set lists f (Some x)) from to (left_after left f) (made_after made from to f xs)
  one_made lists x is count fl order have = record {
    gone = λ p k l on. elim (cases_eq p f) [
      | inl same ↦ absurd (true≢false (sym on ∙ ap (λ t. cond t false (left p)) (eq-eqb p f same)))
      | inr differ ↦
          ap (λ o. list_byte o k) (get_or-set_other lists f p (Some x) None differ)
          ∙ have.gone p k l (sym (ap (λ t. cond t false (left p)) (ne_eqb p f differ)) ∙ on)
    ];
    here = λ p k l m off. elim (cases_eq p f) [
      | inl same ↦
          ap (λ o. list_byte o k) (ap (λ j. slice_index_or (set lists f (Some x)) j None) same ∙ get_or-set_same lists f (Some x) None (omega (arith, count)))
          ∙ ap (λ ys. slice_index ys k) is
          ∙ sym (moved_at from to k xs (omega arith))
          ∙ sym (ap (λ t. slice_index (cond t (moved from to xs) (made p)) (from + k)) (eq-eqb p f same))
      | inr differ ↦
          ap (λ o. list_byte o k) (get_or-set_other lists f p (Some x) None differ)
          ∙ have.here p k l m (sym (ap (λ t. cond t false (left p)) (ne_eqb p f differ)) ∙ off)
          ∙ sym (ap (λ t. slice_index (cond t (moved from to xs) (made p)) (from + k)) (ne_eqb p f differ))
    ];
  }

  -- f is no longer left
  pub not_left : (i : ℕ) → left_after left f i ≡ true → (left i ≡ true) × (i ≢ f)
  not_left i on = elim (cases_eq i f) [
    | inl same ↦ absurd (true≢false (sym on ∙ ap (λ t. cond t false (left i)) (eq-eqb i f same)))
    | inr differ ↦ (sym (ap (λ t. cond t false (left i)) (ne_eqb i f differ)) ∙ on, differ)
  ]

  pub still_left : (i : ℕ) → left i ≡ true → i ≢ f → left_after left f i ≡ true
  still_left i on differ = ap (λ t. cond t false (left i)) (ne_eqb i f differ) ∙ on

module _ (fragments : List (List ℕ)) (missing from to : ℕ) (left : ℕ → Bool) (made : ℕ → List ℕ) (order : from ≤ to) (back : ArePutBack fragments missing from to left made)
    (lists : List (Option (Bor (List ℕ)))) (have : HaveMade lists from to left made) where
  put_back : (g : ℕ) (new : List ℕ) → RebuildsFrom Wide left made g from to new → RebuildsLost Wide fragments missing g from to new
  put_back g new rebuilds w s wide stripe agrees =
      rebuilds w s wide stripe (λ i l off. elim (cases_Bool (is_lost missing i)) [
        | inl gone ↦ sym (back.rebuilt i l gone off w s wide stripe agrees)
        | inr here ↦ agrees i l here ∙ ap (λ xs. slice_range xs from to) (sym (back.kept i l here))
      ])

  pub decodes_after : (chosen : Option ℕ) (shares fewer : List ℕ) (used : Option (List ℕ)) (old new : List ℕ)
      → ((e : ℕ) → e < 4 → slice_index shares e < 256) → ((g : ℕ) → chosen ≡ Some g → g < 16 → is_lost missing g ≡ true → left g ≡ true)
      → ((g : ℕ) → AreShares Wide left g shares → AreShares Wide left g fewer)
      → MatchOption chosen (used ≡ None) (λ g. used ≡ Some fewer)
      → IfSome chosen (λ g. length old ≡ to - from) → length new ≡ length old → HasSums lists used (to - from) new → (used ≡ None → new ≡ old)
      → IfSome chosen (λ g. IsPlanned Wide missing g shares) → DecodesLost Wide fragments missing chosen from to old new
  decodes_after None shares fewer used old new small stays less given room long sums same planned = same given
  decodes_after (Some g) shares fewer used old new small stays less given room long sums same planned =
      let l : g < 16 = planned.inside in
      let stayed : left g ≡ true = stays g refl l planned.gone in
      let more : AreShares Wide left g shares =
      from_more (is_lost missing) left g shares small back.all
      (λ i il on off.
      weighs_nothing (is_lost missing) i g shares small il l on planned.gone (λ e. true≢false (sym stayed ∙ ap left e ∙ off)) planned.gives (back.alone i il on off))
      planned.gives in
      put_back g new (rebuilds_direct left made lists g fewer from to new l order (less g more) (long ∙ room) (subst (λ u. HasSums lists u (to - from) new) given sums) have.gone have.here)

-- lists that are long enough are so with another one
pub have_set : (lists : List (Option (Bor (List ℕ)))) (at n : ℕ) (x : Bor (List ℕ)) → length lists ≡ 16 → at < 16 → HaveBytes lists n → n ≤ length x.now → HaveBytes (set lists at (Some x)) n
have_set lists at n x count l have long j jl = elim (cases_eq j at) [
  | inl same ↦
      subst (λ o. IfSome o (λ list. n ≤ length list.now))
      (sym (ap (λ k. slice_index_or (set lists at (Some x)) k None) same ∙ get_or-set_same lists at (Some x) None (omega (arith, count)))) long
  | inr differ ↦ subst (λ o. IfSome o (λ list. n ≤ length list.now)) (sym (get_or-set_other lists at j (Some x) None differ)) (have j jl)
]

-- what a target has if none is put back
pub decodes_wanted : (fragments : List (List ℕ)) (missing from to : ℕ) (lists : List (Option (Bor (List ℕ)))) (wanted : Wanted) (used : Option (List ℕ)) (old new : List ℕ) → from ≤ to
    → HaveMade lists from to (is_lost missing) (list_at fragments) → MatchOption wanted.chosen (used ≡ None) (λ g. used ≡ Some wanted.shares)
    → HasRoomFor wanted.chosen (to - from) old → length new ≡ length old → HasSums lists used (to - from) new → (used ≡ None → new ≡ old) → DecodesWanted fragments missing wanted from to old new
decodes_wanted fragments missing from to lists wanted used old new order have =
    decodes_after fragments missing from to (is_lost missing) (list_at fragments) order (none_back fragments missing from to) lists have
    wanted.chosen wanted.shares wanted.shares used old new wanted.bytes (λ g is l on. on) (λ g are. are)

-- what another target has if one fragment is put back
pub decodes_after_one : (fragments : List (List ℕ)) (missing from to f at : ℕ) (xs : List ℕ) (lists : List (Option (Bor (List ℕ)))) (x : Bor (List ℕ)) (wanted : Wanted) (fewer : List ℕ) (used : Option (List ℕ)) (old new : List ℕ) → from ≤ to
    → HaveMade lists from to (is_lost missing) (list_at fragments) → length lists ≡ 16 → x.now ≡ xs → f < 16 → is_alone Wide (is_lost missing) f ≡ true → length xs ≡ to - from
    → RebuildsLost Wide fragments missing f from to xs → IfSome wanted.chosen (λ g. is_alone Wide (is_lost missing) g ≡ false)
    → fewer ≡ less_group wanted.shares f → MatchOption wanted.chosen (used ≡ None) (λ g. used ≡ Some fewer)
    → HasRoomFor wanted.chosen (to - from) old → length new ≡ length old → at ≡ f → HasSums (set lists at (Some x)) used (to - from) new → (used ≡ None → new ≡ old) → DecodesWanted fragments missing wanted from to old new
decodes_after_one fragments missing from to f at xs lists x wanted fewer used old new order have count is fl alone long rebuilds other less given room new_long there sums =
    let lost : ℕ → Bool = is_lost missing in
    let made : ℕ → List ℕ = list_at fragments in
    let left : ℕ → Bool = left_after lost f in
    decodes_after fragments missing from to left (made_after made from to f xs) order
    (one_back from to f xs lost made fragments missing (none_back fragments missing from to) (alone_lost lost f alone) alone long rebuilds)
    (set lists f (Some x)) (one_made from to f xs lost made lists x is count fl order have)
    wanted.chosen wanted.shares fewer used old new wanted.bytes
    (λ g chosen l on. still_left from to f xs lost made g on (not_the_alone lost f wanted.chosen alone other g chosen))
    (λ g are. subst (AreShares Wide left g) (sym less) (less_shares lost left g wanted.shares f fl alone (λ i l on. not_left from to f xs lost made i on) are))
    given room new_long (subst (λ n. HasSums (set lists n (Some x)) used (to - from) new) there sums)

-- and if two are
pub decodes_after_two : (fragments : List (List ℕ)) (missing from to f g f_at g_at : ℕ) (xs ys : List ℕ) (lists : List (Option (Bor (List ℕ)))) (x y : Bor (List ℕ)) (wanted : Wanted) (once fewer : List ℕ) (used : Option (List ℕ)) (old new : List ℕ) → from ≤ to
    → HaveMade lists from to (is_lost missing) (list_at fragments) → length lists ≡ 16
    → x.now ≡ xs → f < 16 → is_alone Wide (is_lost missing) f ≡ true → length xs ≡ to - from → RebuildsLost Wide fragments missing f from to xs
    → y.now ≡ ys → g < 16 → is_alone Wide (is_lost missing) g ≡ true → length ys ≡ to - from → RebuildsLost Wide fragments missing g from to ys
    → IfSome wanted.chosen (λ h. is_alone Wide (is_lost missing) h ≡ false)
    → once ≡ less_group wanted.shares f → fewer ≡ less_group once g → MatchOption wanted.chosen (used ≡ None) (λ h. used ≡ Some fewer)
    → HasRoomFor wanted.chosen (to - from) old → length new ≡ length old → f_at ≡ f → g_at ≡ g → HasSums (set (set lists f_at (Some x)) g_at (Some y)) used (to - from) new → (used ≡ None → new ≡ old)
    → DecodesWanted fragments missing wanted from to old new
decodes_after_two fragments missing from to f g f_at g_at xs ys lists x y wanted once fewer used old new order have count x_is fl f_alone x_long f_rebuilds y_is gl g_alone y_long g_rebuilds other less less_too given room new_long f_there g_there sums =
    let lost : ℕ → Bool = is_lost missing in
    let made : ℕ → List ℕ = list_at fragments in
    let one : ℕ → Bool = left_after lost f in
    let one_made_is : ℕ → List ℕ = made_after made from to f xs in
    let two : ℕ → Bool = left_after one g in
    let back = one_back from to f xs lost made fragments missing (none_back fragments missing from to) (alone_lost lost f f_alone) f_alone x_long f_rebuilds in
    let apart_g : (i : ℕ) → two i ≡ true → (one i ≡ true) × (i ≢ g) = not_left from to g ys one one_made_is in
    let apart_f : (i : ℕ) → one i ≡ true → (lost i ≡ true) × (i ≢ f) = not_left from to f xs lost made in
    decodes_after fragments missing from to two (made_after one_made_is from to g ys) order
    (one_back from to g ys one one_made_is fragments missing back (alone_lost lost g g_alone) g_alone y_long g_rebuilds)
    (set (set lists f (Some x)) g (Some y))
    (one_made from to g ys one one_made_is (set lists f (Some x)) y y_is (length-set lists f (Some x) ∙ count) gl order (one_made from to f xs lost made lists x x_is count fl order have))
    wanted.chosen wanted.shares fewer used old new wanted.bytes
    (λ h chosen l on.
    still_left from to g ys one one_made_is h (still_left from to f xs lost made h on (not_the_alone lost f wanted.chosen f_alone other h chosen)) (not_the_alone lost g wanted.chosen g_alone other h chosen))
    (λ h are.
    subst (AreShares Wide two h) (sym less_too)
    (less_shares lost two h once g gl g_alone (λ i l on. ((apart_f i (apart_g i on).0).0, (apart_g i on).1))
    (subst (AreShares Wide two h) (sym less) (less_shares lost two h wanted.shares f fl f_alone (λ i l on. apart_f i (apart_g i on).0) are))))
    given room new_long
    (subst (λ n. HasSums (set (set lists f (Some x)) n (Some y)) used (to - from) new) g_there (subst (λ n. HasSums (set (set lists n (Some x)) g_at (Some y)) used (to - from) new) f_there sums))

-- ---- by a plan
planned_same : (t missing : ℕ) (chosen : Option ℕ) (shares : List ℕ) → ((i : ℕ) → is_lost t i ≡ is_lost missing i) → IfSome chosen (λ f. IsPlanned Wide missing f shares) → IfSome chosen (λ f. IsPlanned Wide t f shares)
planned_same t missing None shares same planned = planned
planned_same t missing (Some f) shares same planned = record {
  inside = planned.inside;
  gone = same f ∙ planned.gone;
  gives = shares_same Wide (is_lost missing) (is_lost t) f shares (λ i l. sym (same i)) planned.gives;
}

-- what a target has of a plan's fragment, and a set t that is the same as the missing
pub decodes_by_wanted : (code : Code) (fragments : List (List ℕ)) (t missing from to : ℕ) (wanted : Wanted) (chosen : Option ℕ) (shares : List ℕ) (old new : List ℕ) → code ≡ Wide → ((i : ℕ) → is_lost t i ≡ is_lost missing i)
    → wanted.chosen ≡ chosen → wanted.shares ≡ shares → DecodesWanted fragments t wanted from to old new → IfSome chosen (λ f. IsPlanned code missing f shares) → DecodesLost code fragments missing chosen from to old new
decodes_by_wanted code fragments t missing from to wanted chosen shares old new is same chosen_is shares_is decodes planned =
    let here : IfSome chosen (λ f. IsPlanned Wide t f shares) = planned_same t missing chosen shares same (subst (λ c. IfSome chosen (λ f. IsPlanned c missing f shares)) is planned) in
    let known : IfSome wanted.chosen (λ f. IsPlanned Wide t f wanted.shares) =
    subst (λ o. IfSome o (λ f. IsPlanned Wide t f wanted.shares)) (sym chosen_is) (subst (λ xs. IfSome chosen (λ f. IsPlanned Wide t f xs)) (sym shares_is) here) in
    subst (λ c. DecodesLost c fragments missing chosen from to old new) (sym is)
    (decodes_same Wide fragments t missing chosen from to to old new same refl (subst (λ o. DecodesLost Wide fragments t o from to old new) chosen_is (decodes known)))

-- ---- by the shares of a lost set
-- what shares give is not open
pub none_open_given : (lost : ℕ) (chosen : Option ℕ) (wanted : Wanted) → GivesLost lost chosen wanted → IsSomeAnd chosen (Open Wide (is_lost lost)) → ⊥
none_open_given lost None wanted given h = h
none_open_given lost (Some f) wanted given h = given_not_open Wide (is_lost lost) f wanted.shares given.1.gives h
