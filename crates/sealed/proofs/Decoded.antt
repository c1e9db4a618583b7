-- What is decoded from the present fragments of a stripe is that of each blob that the value represents.
use Rattle.std.proofs.Common.{◌≡◌, ℕ, zero, suc, ◌-◌, ◌<◌, ◌≤◌, Bool, true, false, List, [], ◌∷◌, Option, None, Some, Bor, IfSome, IsSomeAnd, MatchOption, cond, length, refl, sym, ap, ◌∙◌, subst, arith}
use Rattle.std.specs.Prelude.{is_none, slice_index_or, slice_range}
use Rattle.std.specs.Option.{option_map}
use Rattle.std.proofs.lemmas.Bool.{true≢false}
use Rattle.lrc_code.specs.declared.Code.{Code}
use Rattle.lrc_code.specs.Code.{fragment_count, Open}
use Rattle.lrc_code.specs.Stripe.{slot, bytes_of, is_absent, Reaches, Rebuilds}
use Rattle.lrc_code.proofs.Stripes.{open_same}
use Rattle.decode.specs.Decoding.{HasOpen, IsDecoded}
use Rattle.sealed.specs.declared.value.Sealed.{Sealed}
use Rattle.sealed.specs.Layout.{stripe_count}
use Rattle.sealed.specs.Stripes.{fragment_at}
use Rattle.sealed.specs.Blob.{lost_in, fragment}
use Rattle.sealed.specs.Sealed.{absent_in}
use Rattle.sealed.specs.Rebuilding.{IsPartOf, IsChosenPart, IsRebuildable}
use Rattle.sealed.proofs.Counting.{few_fragments}
use Rattle.sealed.proofs.Fragments.{fragments_are}

none_of_map : (o : Option (Bor (List ℕ))) → is_none (option_map (λ x. x.now) o) ≡ is_none o
none_of_map None = refl
none_of_map (Some x) = refl

reach_by : (o : Option (Bor (List ℕ))) (found : Option (List ℕ)) (to w : ℕ) → option_map (λ x. x.now) o ≡ found → ((x : List ℕ) → found ≡ Some x → length x ≡ w) → to ≤ w → is_none o ≡ false
    → to ≤ length (bytes_of o)
reach_by None found to w e sized within here = absurd (true≢false here)
reach_by (Some x) found to w e sized within here = let long = sized x.now (sym e) in omega arith

agree_by : (o : Option (Bor (List ℕ))) (gone : Bool) (y : List ℕ) (from to : ℕ) → option_map (λ x. x.now) o ≡ cond gone None (Some y) → IfSome o (λ x. slice_range y from to ≡ slice_range x.now from to)
agree_by None gone y from to e = tt
agree_by (Some x) true y from to e = absurd (let clash : Some x.now ≡ None = e in cc)
agree_by (Some x) false y from to e = ap (λ z. slice_range z from to) (let same : Some x.now ≡ Some y = e in let is : y ≡ x.now = cc in is)

module _ (s : Sealed) (j : ℕ) (below : j < stripe_count s.code s.width s.len) (code : Code) (is_code : code ≡ s.code) (fragments : List (Option (Bor (List ℕ))))
    (slots : (f : ℕ) → f < 16 → option_map (λ x. x.now) (slot fragments f) ≡ fragment_at s.stripes j f) where
  absent_same : (f : ℕ) → f < fragment_count code → absent_in s j f ≡ is_absent fragments f
  absent_same f l = ap is_none (sym (slots f (let few = few_fragments code in omega arith))) ∙ none_of_map (slot fragments f)

  pub all_reach : (to : ℕ) → to ≤ s.width → (i : ℕ) → i < fragment_count code → is_absent fragments i ≡ false → Reaches fragments to i
  all_reach to within i l here =
      (here, reach_by (slot fragments i) (fragment_at s.stripes j i) to s.width (slots i (let few = few_fragments code in omega arith)) (λ x e. (s.shaped.sized j i x e).1) within here)

  absent_by : (chosen : Option ℕ) → IfSome chosen (IsRebuildable s j) → IfSome chosen (λ f. (f < fragment_count code) × (is_absent fragments f ≡ true))
  absent_by None known = tt
  absent_by (Some f) known =
      let inside : f < fragment_count code = subst (λ c. f < fragment_count c) (sym is_code) known.has.1 in
      (inside, sym (absent_same f inside) ∙ known.lost)

  pub closed_by : (chosen : Option ℕ) → IfSome chosen (IsRebuildable s j) → IsSomeAnd chosen (Open code (is_absent fragments)) → ⊥
  closed_by None known h = h
  closed_by (Some f) known h = known.closed (subst (λ c. Open c (absent_in s j) f) is_code (open_same code (is_absent fragments) (absent_in s j) f (λ i l. sym (absent_same i l)) h))

  module _ (chosen : List (Option ℕ)) (known : (i : ℕ) → i < 4 → IfSome (slice_index_or chosen i None) (IsRebuildable s j)) where
    pub all_absent : (i : ℕ) → i < 4 → IfSome (slice_index_or chosen i None) (λ f. (f < fragment_count code) × (is_absent fragments f ≡ true))
    all_absent i l = absent_by (slice_index_or chosen i None) (known i l)

    pub none_open : HasOpen code (is_absent fragments) chosen → ⊥
    none_open h = closed_by (slice_index_or chosen h.0 None) (known h.0 h.1) h.2

  -- the bytes that every stripe has that agrees with the present fragments
  pub decoded_part : (f from to : ℕ) (bytes : List ℕ) → to ≤ s.width → Rebuilds code fragments f from to bytes → IsPartOf s j f from to bytes
  decoded_part f from to bytes within rebuilds b lost stands =
      (subst (λ c. Rebuilds c fragments f from to bytes) is_code rebuilds) s.width (fragment s.code s.width b j) within
      ((fragments_are s.code s.width b j stands.bytes).stripe)
      (λ i l. agree_by (slot fragments i) (lost_in lost j i) (fragment s.code s.width b j i) from to
      (slots i (let few = few_fragments s.code in omega arith) ∙ stands.fragments j i below l))

  -- the bytes that are written for a fragment if one is chosen
  pub chosen_part : {V : Type 0} (items : V → List ℕ) (chosen : Option ℕ) (from to : ℕ) (old new : List ℕ) (out : Option V) (v : V) → to ≤ s.width → IfSome chosen (λ _. length old ≡ to - from) → length new ≡ length old
      → IsDecoded code fragments chosen from to old new → MatchOption chosen (out ≡ None) (λ _. out ≡ Some v) → items v ≡ new → IsChosenPart s j from to chosen (option_map items out)
  chosen_part items None from to old new out v within long kept decoded is same = ap (option_map items) is
  chosen_part items (Some f) from to old new out v within long kept decoded is same =
      let found : option_map items out ≡ Some new = ap (option_map items) is ∙ ap (λ x. Some x) same in
      subst (λ o. IsSomeAnd o (λ bytes. (length bytes ≡ to - from) × IsPartOf s j f from to bytes)) (sym found) (kept ∙ long, decoded_part f from to new within decoded)

-- a fact of each of four places
pub each_of_four : {A : Type 0} (P : ℕ → A → Type 0) (a b c d : A) (other : A) → P 0 a → P 1 b → P 2 c → P 3 d → (i : ℕ) → i < 4 → P i (slice_index_or (a ∷ b ∷ c ∷ d ∷ []) i other)
each_of_four P a b c d other pa pb pc pd zero l = pa
each_of_four P a b c d other pa pb pc pd (suc zero) l = pb
each_of_four P a b c d other pa pb pc pd (suc (suc zero)) l = pc
each_of_four P a b c d other pa pb pc pd (suc (suc (suc zero))) l = pd
each_of_four P a b c d other pa pb pc pd (suc (suc (suc (suc i)))) l = absurd (omega arith)

pub true_if : (b : Bool) → (b ≡ false → ⊥) → b ≡ true
true_if true not_false = refl
true_if false not_false = absurd (not_false refl)
