use Rattle.std.proofs.Common.{◌≡◌, ℕ, ◌<◌, true, List, [], ◌∷◌, Option, Some, None, IfSome, get_or}
use Rattle.std.specs.Prelude.{slice_index_or}
use Rattle.kernels.proofs.GroupLemmas.{each_of_four}
use Rattle.lrc_code.specs.Code.{fragment_count, is_lost}
use Rattle.decode.specs.Syndrome.{AreShares}
use Rattle.decode.specs.DecodePlan.{at_target}
use Rattle.decode.proofs.Planned.{planned, none_is_open}
use Rattle.decode.proofs.FewReads.{AreReadsOf, near, few}
use Rattle.decode.proofs.plans.plan_for.Goals as goal

abbrev shares : goal.After-missing_of-missing → List (List ℕ)
shares c = c.in_ok-shares_if.field-0 ∷ c.in_ok-shares_if-2.field-0 ∷ c.in_ok-shares_if-3.field-0 ∷ c.in_ok-shares_if-4.field-0 ∷ []

-- target k has shares of its fragment
are : (c : goal.After-missing_of-missing) (k : ℕ) → k < 4 → IfSome (slice_index_or c.args.chosen k None) (λ f. AreShares c.args.code (is_lost c.args.lost) f (at_target (shares c) k))
are c = each_of_four (λ k. IfSome (slice_index_or c.args.chosen k None) (λ f. AreShares c.args.code (is_lost c.args.lost) f (at_target (shares c) k)))
    c.in_ok-shares_if.ensures.shares c.in_ok-shares_if-2.ensures.shares c.in_ok-shares_if-3.ensures.shares c.in_ok-shares_if-4.ensures.shares

small : (c : goal.After-missing_of-missing) (k : ℕ) → k < 4 → (e : ℕ) → e < 4 → get_or (at_target (shares c) k) e 0 < 256
small c = each_of_four (λ k. (e : ℕ) → e < 4 → get_or (at_target (shares c) k) e 0 < 256)
    c.in_ok-shares_if.ensures.bytes c.in_ok-shares_if-2.ensures.bytes c.in_ok-shares_if-3.ensures.bytes c.in_ok-shares_if-4.ensures.bytes

reads : (c : goal.After-missing_of-missing) (k : ℕ) → k < 4 → AreReadsOf c.args.code (is_lost c.args.lost) (slice_index_or c.args.chosen k None) (at_target (shares c) k)
reads c = each_of_four (λ k. AreReadsOf c.args.code (is_lost c.args.lost) (slice_index_or c.args.chosen k None) (at_target (shares c) k))
    c.in_ok-shares_if.ensures.reads c.in_ok-shares_if-2.ensures.reads c.in_ok-shares_if-3.ensures.reads c.in_ok-shares_if-4.ensures.reads

lost_only : (n lost : ℕ) (chosen : Option ℕ) → IfSome chosen (λ f. (f < n) × (is_lost lost f ≡ true)) → IfSome chosen (λ f. is_lost lost f ≡ true)
lost_only n lost None h = tt
lost_only n lost (Some f) h = h.1

gone : (c : goal.After-missing_of-missing) (k : ℕ) → k < 4 → IfSome (slice_index_or c.args.chosen k None) (λ f. is_lost c.args.lost f ≡ true)
gone c k l = lost_only (fragment_count c.args.code) c.args.lost (slice_index_or c.args.chosen k None) (c.requires k l)

pub returns-clause-near : goal.returns-clause-near
returns-clause-near c = near c.args.code c.args.lost c.missing_of-missing.result c.args.chosen (shares c) c.missing_of-missing.ensures.read (gone c) (reads c)

pub returns-clause-few : goal.returns-clause-few
returns-clause-few c = few c.args.code c.args.lost c.missing_of-missing.result c.args.chosen (shares c) c.missing_of-missing.ensures.read (gone c) (reads c)

pub returns-clause-open : goal.returns-clause-open
returns-clause-open c = (λ h. absurd (cc h), λ h. absurd (none_is_open c.args.code c.args.lost (slice_index_or c.args.chosen h.0 None) (at_target (shares c) h.0) (are c h.0 h.1) h.2))

pub returns-clause-plan : goal.returns-clause-plan
returns-clause-plan c k l =
    planned c.args.code c.args.lost c.missing_of-missing.result (slice_index_or c.args.chosen k None) (shares c) k l (c.requires k l) (are c k l) (small c k l) c.missing_of-missing.ensures.lost c.missing_of-missing.ensures.rest
