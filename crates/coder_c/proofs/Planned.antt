-- The bytes of a plan, and the plan that they are.
use Rattle.std.proofs.Common.{◌≡◌, ℕ, ◌<◌, ◌^◌, List, Option, Some, None, sym, ap, ◌∙◌, subst}
use Rattle.std.specs.Prelude.{IfSome, IsSomeAnd, slice_index, slice_index_or}
use Rattle.gf256.specs.Field.{product}
use Rattle.kernels.proofs.Sums.{xor_sum_same}
use Rattle.lrc_code.specs.declared.Code.{Code}
use Rattle.decode.specs.declared.plans.DecodePlan.{DecodePlan}
use Rattle.decode.specs.Syndrome.{syndrome}
use Rattle.decode.specs.DecodePlan.{IsDecodePlan, IsPlanned, at_target}
use Rattle.coder_c.specs.Call.{LeftReach, AreLostIn, HaveRoomFor, DecodesLost}
use Rattle.coder_c.specs.PlanBytes.{format_in, code_in, missing_in, chosen_in, shares_in, plan_in, AreSameShares}
use Rattle.coder_c.proofs.Asked.{at_code}
use Rattle.coder_c.proofs.Chosen.{some_and, and_some}

module _ (bytes : List ℕ) (p : DecodePlan) (has_code : code_in bytes ≡ Some p.code) (is : p ≡ plan_in p.code bytes) (fragments : List (List ℕ)) where
  -- what was decoded by the plan was decoded by its bytes
  pub decodes_by_bytes : (i from to end : ℕ) (old new : List ℕ) → to ≡ end
      → (IsDecodePlan p → DecodesLost p.code fragments p.missing (slice_index_or p.chosen i None) from to old new)
      → IfSome (code_in bytes) (λ code. IsDecodePlan (plan_in code bytes) → DecodesLost code fragments (missing_in bytes) (slice_index_or (chosen_in bytes) i None) from end old new)
  decodes_by_bytes i from to end old new e decodes =
      at_code (code_in bytes) p.code (λ code. IsDecodePlan (plan_in code bytes) → DecodesLost code fragments (missing_in bytes) (slice_index_or (chosen_in bytes) i None) from end old new) has_code
      (subst (λ (q : DecodePlan). IsDecodePlan q → DecodesLost q.code fragments q.missing (slice_index_or q.chosen i None) from end old new) is
      (subst (λ n. IsDecodePlan p → DecodesLost p.code fragments p.missing (slice_index_or p.chosen i None) from n old new) e decodes))

  -- what the call asks of a plan
  abbrev Takes : DecodePlan → ℕ → ℕ → List ℕ → List ℕ → List ℕ → List ℕ → Type 0
  Takes q w end first second third fourth =
      AreLostIn q.code q.missing q.chosen × HaveRoomFor q.chosen w first second third fourth × LeftReach q.code fragments q.missing end × (end < 2 ^ 64)

  abbrev pub TakesBytes : ℕ → ℕ → List ℕ → List ℕ → List ℕ → List ℕ → Type 0
  TakesBytes w end first second third fourth =
      IsSomeAnd (code_in bytes) (λ code. (format_in bytes ≡ 1) × AreLostIn code (missing_in bytes) (chosen_in bytes)
      × HaveRoomFor (chosen_in bytes) w first second third fourth × LeftReach code fragments (missing_in bytes) end × (end < 2 ^ 64))

  pub takes_bytes : (w end : ℕ) (first second third fourth : List ℕ) → format_in bytes ≡ 1 → Takes p w end first second third fourth → TakesBytes w end first second third fourth
  takes_bytes w end first second third fourth format takes =
      let here = subst (λ (q : DecodePlan). Takes q w end first second third fourth) is takes in
      some_and (code_in bytes) p.code _ has_code (format, here.0, here.1, here.2, here.3)

  pub takes_plan : (w end : ℕ) (first second third fourth : List ℕ) → TakesBytes w end first second third fourth → Takes p w end first second third fourth
  takes_plan w end first second third fourth takes =
      let here = and_some (code_in bytes) p.code (λ code. (format_in bytes ≡ 1) × AreLostIn code (missing_in bytes) (chosen_in bytes)
      × HaveRoomFor (chosen_in bytes) w first second third fourth × LeftReach code fragments (missing_in bytes) end × (end < 2 ^ 64)) has_code takes in
      subst (λ (q : DecodePlan). Takes q w end first second third fourth) (sym is) (here.1, here.2, here.3, here.4)

-- shares that are the same at each syndrome give the same fragment
same_plan : (code : Code) (missing : ℕ) (chosen : Option ℕ) (shares others : List ℕ) → ((e : ℕ) → e < 4 → slice_index shares e ≡ slice_index others e)
    → IfSome chosen (λ f. IsPlanned code missing f others) → IfSome chosen (λ f. IsPlanned code missing f shares)
same_plan code missing None shares others same planned = planned
same_plan code missing (Some f) shares others same planned = record {
  inside = planned.inside;
  gone = planned.gone;
  gives = λ c b is left. planned.gives c b is left ∙ xor_sum_same 4 _ _ (λ e l. ap (λ x. product x (syndrome code e b)) (sym (same e l)));
}

-- the bytes of a plan are one
pub is_plan_of_bytes : (code : Code) (bytes : List ℕ) (p : DecodePlan) → p.code ≡ code → missing_in bytes ≡ p.missing → chosen_in bytes ≡ p.chosen → AreSameShares (shares_in bytes) p.shares
    → IsDecodePlan p → IsDecodePlan (plan_in code bytes)
is_plan_of_bytes code bytes p code_is missing chosen shares is k l =
    subst (λ (o : List (Option ℕ)). IfSome (slice_index_or o k None) (λ f. IsPlanned code (missing_in bytes) f (at_target (shares_in bytes) k))) (sym chosen)
    (subst (λ m. IfSome (slice_index_or p.chosen k None) (λ f. IsPlanned code m f (at_target (shares_in bytes) k))) (sym missing)
    (same_plan code p.missing (slice_index_or p.chosen k None) (at_target (shares_in bytes) k) (at_target p.shares k) (λ e m. shares k e l m)
    (subst (λ n. IfSome (slice_index_or p.chosen k None) (λ f. IsPlanned n p.missing f (at_target p.shares k))) code_is (is k l))))
