-- What is known of the fragments that were chosen, in the words of the arguments.
use Rattle.std.proofs.Common.{◌≡◌, ◌↔◌, ℕ, ◌<◌, Bool, true, false, List, Option, Some, None, Bor, sym, ap, ◌∙◌, subst, arith}
use Rattle.std.specs.Prelude.{IfSome, IsSomeAnd, slice_index_or, slice_range}
use Rattle.std.specs.Option.{is_none}
use Rattle.lrc_code.specs.declared.Code.{Code}
use Rattle.lrc_code.specs.declared.Code.TheVariants.{Wide, Small}
use Rattle.lrc_code.specs.Code.{fragment_count, is_lost, is_alone, Open}
use Rattle.lrc_code.specs.Stripe.{slot, bytes_of, is_absent, list_at}
use Rattle.lrc_code.proofs.Recoverable.{not_open_alone}
use Rattle.lrc_code.proofs.Stripes.{open_same}
use Rattle.decode.specs.Decoding.{HasOpen, IsDecoded}
use Rattle.coder_c.specs.Call.{IsLostIn, LeftReach, AreLostIn, DecodesLost}

pub some_and : (found : Option Code) (code : Code) (P : Code → Type 0) → found ≡ Some code → P code → IsSomeAnd found P
some_and found code P is p = subst (λ o. IsSomeAnd o P) (sym is) p

pub and_some : (found : Option Code) (code : Code) (P : Code → Type 0) → found ≡ Some code → IsSomeAnd found P → P code
and_some found code P is h = subst (λ o. IsSomeAnd o P) is h

-- the same set, by other bits
pub decodes_same : (code : Code) (fragments : List (List ℕ)) (t u : ℕ) (chosen : Option ℕ) (from to end : ℕ) (old new : List ℕ) → ((i : ℕ) → is_lost t i ≡ is_lost u i) → to ≡ end
    → DecodesLost code fragments t chosen from to old new → DecodesLost code fragments u chosen from end old new
decodes_same code fragments t u None from to end old new same e decodes = decodes
decodes_same code fragments t u (Some f) from to end old new same e decodes =
    subst (λ n. DecodesLost code fragments u (Some f) from n old new) e
    (λ w s le stripe agrees. decodes w s le stripe (λ i l left. agrees i l (sym (same i) ∙ left)))

pub decodes_there : (found : Option Code) (code : Code) (fragments : List (List ℕ)) (t u i : ℕ) (chosen given : List (Option ℕ)) (from to end : ℕ) (old new : List ℕ)
    → found ≡ Some code → ((i : ℕ) → is_lost t i ≡ is_lost u i) → chosen ≡ given → to ≡ end
    → DecodesLost code fragments t (slice_index_or chosen i None) from to old new → IfSome found (λ code. DecodesLost code fragments u (slice_index_or given i None) from end old new)
decodes_there found code fragments t u i chosen given from to end old new is same chosen_is to_is decodes =
    subst (λ o. IfSome o (λ code. DecodesLost code fragments u (slice_index_or given i None) from end old new)) (sym is)
    (decodes_same code fragments t u (slice_index_or given i None) from to end old new same to_is
    (subst (λ o. DecodesLost code fragments t (slice_index_or o i None) from to old new) chosen_is decodes))

open_if : (code : Code) (t u : ℕ) (chosen : Option ℕ) → ((i : ℕ) → is_lost t i ≡ is_lost u i) → IsSomeAnd chosen (Open code (is_lost t)) → IsSomeAnd chosen (Open code (is_lost u))
open_if code t u None same h = h
open_if code t u (Some f) same h = open_same code (is_lost t) (is_lost u) f (λ i l. same i) h

pub has_open_same : (code : Code) (t u : ℕ) (chosen : List (Option ℕ)) → ((i : ℕ) → is_lost t i ≡ is_lost u i) → HasOpen code (is_lost t) chosen → HasOpen code (is_lost u) chosen
has_open_same code t u chosen same h = (h.0, h.1, open_if code t u (slice_index_or chosen h.0 None) same h.2)

lost_if : (code : Code) (t u : ℕ) (chosen : Option ℕ) → ((i : ℕ) → is_lost t i ≡ is_lost u i) → IfSome chosen (IsLostIn code t) → IfSome chosen (IsLostIn code u)
lost_if code t u None same h = h
lost_if code t u (Some f) same h = (h.0, sym (same f) ∙ h.1)

pub are_lost_same : (code : Code) (t u : ℕ) (chosen : List (Option ℕ)) → ((i : ℕ) → is_lost t i ≡ is_lost u i) → AreLostIn code t chosen → AreLostIn code u chosen
are_lost_same code t u chosen same h i l = lost_if code t u (slice_index_or chosen i None) same (h i l)

pub reach_same : (code : Code) (fragments : List (List ℕ)) (t u to : ℕ) → ((i : ℕ) → is_lost t i ≡ is_lost u i) → LeftReach code fragments t to → LeftReach code fragments u to
reach_same code fragments t u to same h i l left = h i l (same i ∙ left)

-- ---- fragments that are alone lost in their groups
none_open : (code : Code) (lost : ℕ) (chosen : Option ℕ) → IfSome chosen (IsLostIn code lost) → IfSome chosen (λ f. is_alone code (is_lost lost) f ≡ true) → IsSomeAnd chosen (Open code (is_lost lost)) → ⊥
none_open code lost None known alone h = h
none_open code lost (Some f) known alone h = not_open_alone code (is_lost lost) f known.0 alone h

pub none_has_open : (code : Code) (lost : ℕ) (chosen : List (Option ℕ)) → AreLostIn code lost chosen → ((i : ℕ) → i < 4 → IfSome (slice_index_or chosen i None) (λ f. is_alone code (is_lost lost) f ≡ true))
    → HasOpen code (is_lost lost) chosen → ⊥
none_has_open code lost chosen known alone h = none_open code lost (slice_index_or chosen h.0 None) (known h.0 h.1) (alone h.0 h.1) h.2

-- ---- the remaining fragments in their slots
fragment_below_16 : (code : Code) (i : ℕ) → i < fragment_count code → i < 16
fragment_below_16 Wide i l = l
fragment_below_16 Small i l = omega arith

agrees_at : (o : Option (Bor (List ℕ))) (xs ys : List ℕ) (from to : ℕ) (gone : Bool) → is_none o ≡ gone → (gone ≡ false → bytes_of o ≡ ys) → (gone ≡ false → slice_range xs from to ≡ slice_range ys from to)
    → IfSome o (λ x. slice_range xs from to ≡ slice_range x.now from to)
agrees_at None xs ys from to gone absent bytes agrees = tt
agrees_at (Some x) xs ys from to gone absent bytes agrees = agrees (sym absent) ∙ ap (λ zs. slice_range zs from to) (sym (bytes (sym absent)))

module _ (code : Code) (fragments : List (List ℕ)) (lost : ℕ) (slots : List (Option (Bor (List ℕ)))) (absent : (i : ℕ) → i < 16 → is_absent slots i ≡ is_lost lost i)
    (bytes : (i : ℕ) → i < 16 → is_lost lost i ≡ false → bytes_of (slot slots i) ≡ list_at fragments i) where
  decodes_by : (chosen : Option ℕ) (from to : ℕ) (old new : List ℕ) → IsDecoded code slots chosen from to old new → DecodesLost code fragments lost chosen from to old new
  decodes_by None from to old new is = is
  decodes_by (Some f) from to old new is =
      λ w s wide stripe agrees. is w s wide stripe (λ i l.
      let small = fragment_below_16 code i l in
      agrees_at (slot slots i) (s i) (list_at fragments i) from to (is_lost lost i) (absent i small) (bytes i small) (agrees i l))

  pub decodes_by_slots : (of : Code) (chosen : Option ℕ) (from to : ℕ) (old new : List ℕ) → of ≡ code → IsDecoded of slots chosen from to old new → DecodesLost code fragments lost chosen from to old new
  decodes_by_slots of chosen from to old new same is = decodes_by chosen from to old new (subst (λ c. IsDecoded c slots chosen from to old new) same is)

  there : (chosen : Option ℕ) → IsSomeAnd chosen (Open code (is_absent slots)) → IsSomeAnd chosen (Open code (is_lost lost))
  there None h = h
  there (Some f) h = open_same code (is_absent slots) (is_lost lost) f (λ i l. absent i (fragment_below_16 code i l)) h

  back : (chosen : Option ℕ) → IsSomeAnd chosen (Open code (is_lost lost)) → IsSomeAnd chosen (Open code (is_absent slots))
  back None h = h
  back (Some f) h = open_same code (is_lost lost) (is_absent slots) f (λ i l. sym (absent i (fragment_below_16 code i l))) h

  pub open_by_slots : (of : Code) (chosen : List (Option ℕ)) → of ≡ code → HasOpen of (is_absent slots) chosen ↔ HasOpen code (is_lost lost) chosen
  open_by_slots of chosen same = subst (λ c. HasOpen c (is_absent slots) chosen ↔ HasOpen code (is_lost lost) chosen) (sym same)
      (λ h. (h.0, h.1, there (slice_index_or chosen h.0 None) h.2), λ h. (h.0, h.1, back (slice_index_or chosen h.0 None) h.2))
