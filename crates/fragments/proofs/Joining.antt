-- The data of a stripe: one more fragment behind the others.
use Rattle.std.proofs.Common.{◌≡◌, ◌+◌, ◌-◌, ◌*◌, ◌<◌, ◌≤◌, ℕ, suc, List, Option, Bor, take, length, ◌++◌, ap₂, ◌∙◌, subst, arith}
use Rattle.std.specs.Prelude.{slice_range}
use Rattle.std.proofs.lemmas.Slice.{take-put_mid}
use Rattle.std.proofs.lemmas.List.{take_all}
use Rattle.std.proofs.Math.Nat.{mul-le-mul_right}
use borrow.Rule.Slice.PartMut.{put_mid}
use Rattle.lrc_code.specs.declared.Code.{Code}
use Rattle.lrc_code.specs.declared.Code.TheVariants.{Wide, Small}
use Rattle.lrc_code.specs.Code.{data_count, fragment_count}
use Rattle.lrc_code.specs.Stripe.{Agrees, IsStripe, Rebuilds}
use Rattle.fragments.specs.Data.{first_lists}

pub one_more : (s : ℕ → List ℕ) (f at k n : ℕ) (xs ys : List ℕ) → take at xs ≡ first_lists s f → ys ≡ s f → n ≡ at + length ys → at ≤ length xs → take n (put_mid at k xs ys) ≡ first_lists s (f + 1)
one_more s f at k n xs ys d e l b =
    let next : suc f ≡ f + 1 = omega arith in
    subst (λ m. take n (put_mid at k xs ys) ≡ first_lists s m) next (take-put_mid at k xs ys n l b ∙ ap₂ (λ u v. u ++ v) d e)

-- a code has its data fragments
pub is_fragment : (code : Code) (f : ℕ) → f < data_count code → f < fragment_count code
is_fragment Wide f l = omega (arith, l)
is_fragment Small f l = omega (arith, l)

-- a whole block of a stripe is the stripe's
pub whole_block : (s : ℕ → List ℕ) (f w : ℕ) (bytes : List ℕ) (code : Code) (fragments : List (Option (Bor (List ℕ)))) → Rebuilds code fragments f 0 w bytes → IsStripe code w s → Agrees code fragments 0 w s → f < data_count code → bytes ≡ s f
whole_block s f w bytes code fragments r h a l =
    let len : length (s f) ≡ w = h.width f (is_fragment code f l) in
    let less : w ≡ w - 0 = omega arith in
    let all : slice_range (s f) 0 w ≡ s f = subst (λ m. take m (s f) ≡ s f) less (take_all w (s f) (omega (arith, len))) in
    r w s (omega arith) h a ∙ all

-- a fragment begins inside the data
pub begins_inside : (r f d w n : ℕ) → r ≡ f → f < d → n ≡ d * w → r * w ≤ n
begins_inside r f d w n same below size = omega (arith, mul-le-mul_right {m = r} {n = d} w (omega arith))
