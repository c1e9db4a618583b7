-- Blocks, lane by lane.
use Rattle.std.proofs.Common.{◌≡◌, ℕ, ◌+◌, ◌*◌, ◌/◌, ◌%◌, ◌^◌, ◌<◌, List, length, get_or, replicate, subst, bit_xor, bit_and, ◌-◌, zero, suc, refl, sym, ap, ap₂, ◌∙◌, arith, w8, Fits}
use Rattle.std.proofs.lemmas.Simd.{Each1-get_or, below_from_Fits, length-zip2, get_or-zip2, get_or-replicate, get_or-chunk}
use lib.Lanes.{zip2, Each1, chunk}
use Rattle.gf256.specs.Field.{product}
use Rattle.kernels.proofs.GroupLemmas.{twice_is}
use Rattle.kernels.specs.declared.lanes.TheConstants.{LANES}

abbrev pub wrapped_add : ℕ → ℕ → ℕ
wrapped_add a b = (a + b) % 256

abbrev pub wrapped_sub : ℕ → ℕ → ℕ
wrapped_sub a b = (a + (256 - b)) % 256

abbrev pub moved_down : ℕ → ℕ → ℕ
moved_down a b = a / 2 ^ b

pub get_or-sum : (a b : List ℕ) → length a ≡ LANES → length b ≡ LANES → (k : ℕ) → k < LANES → get_or (zip2 bit_xor a b) k 0 ≡ bit_xor (get_or a k 0) (get_or b k 0)
get_or-sum a b p q k h = get_or-zip2 bit_xor a b k 0 0 0 (omega arith) (omega arith)

pub length-sum : (a b : List ℕ) → length a ≡ LANES → length b ≡ LANES → length (zip2 bit_xor a b) ≡ LANES
length-sum a b p q = length-zip2 bit_xor a b (p ∙ sym q) ∙ p

-- 29 under the mask of a bit
masked_bit : (b : ℕ) → b < 2 → bit_and (wrapped_sub 0 b) 29 ≡ b * 29
masked_bit zero _ = refl
masked_bit (suc zero) _ = refl
masked_bit (suc (suc b)) h = omega arith

module _ (x : List ℕ) (p : length x ≡ LANES) where
  abbrev downs : List ℕ
  downs = zip2 moved_down x (replicate LANES 7)

  abbrev masks : List ℕ
  masks = zip2 wrapped_sub (replicate LANES 0) downs

  abbrev products : List ℕ
  products = zip2 bit_and masks (replicate LANES 29)

  length-added : length (zip2 wrapped_add x x) ≡ LANES
  length-added = length-zip2 wrapped_add x x refl ∙ p

  length-downs : length downs ≡ LANES
  length-downs = length-zip2 moved_down x (replicate LANES 7) p ∙ p

  length-masks : length masks ≡ LANES
  length-masks = length-zip2 wrapped_sub (replicate LANES 0) downs (sym length-downs) ∙ refl

  length-products : length products ≡ LANES
  length-products = length-zip2 bit_and masks (replicate LANES 29) length-masks ∙ length-masks

  pub length-twice : length (zip2 bit_xor (zip2 wrapped_add x x) products) ≡ LANES
  length-twice = length-sum (zip2 wrapped_add x x) products length-added length-products

  pub get_or-twice : Each1 (Fits w8) x → (k : ℕ) → k < LANES → get_or (zip2 bit_xor (zip2 wrapped_add x x) products) k 0 ≡ product 2 (get_or x k 0)
  get_or-twice fits k h =
      let small : get_or x k 0 < 256 = Each1-get_or (λ y. y < 256) x k 0 (omega arith) (below_from_Fits w8 x fits) in
      let sum : get_or (zip2 wrapped_add x x) k 0 ≡ get_or x k 0 * 2 % 256 = get_or-zip2 wrapped_add x x k 0 0 0 (omega arith) (omega arith) ∙ ap (λ y. y % 256) (omega arith) in
      let down : get_or downs k 0 ≡ get_or x k 0 / 128 = get_or-zip2 moved_down x (replicate LANES 7) k 0 0 0 (omega arith) h ∙ ap (moved_down (get_or x k 0)) (get_or-replicate LANES k 7 0 h) in
      let mask : get_or masks k 0 ≡ wrapped_sub 0 (get_or x k 0 / 128) = get_or-zip2 wrapped_sub (replicate LANES 0) downs k 0 0 0 h (omega (arith, length-downs)) ∙ ap₂ wrapped_sub (get_or-replicate LANES k 0 0 h) down in
      let bit : get_or products k 0 ≡ get_or x k 0 / 128 * 29 =
      get_or-zip2 bit_and masks (replicate LANES 29) k 0 0 0 (omega (arith, length-masks)) h ∙ ap₂ bit_and mask (get_or-replicate LANES k 29 0 h) ∙ masked_bit (get_or x k 0 / 128) (omega arith) in
      get_or-sum (zip2 wrapped_add x x) products length-added length-products k h
      ∙ ap₂ bit_xor sum bit
      ∙ twice_is (get_or x k 0) small

pub chunk-lt : (xs : List ℕ) (at : ℕ) → ((k : ℕ) → get_or xs k 0 < 256) → (k : ℕ) → k < LANES → get_or (chunk at LANES xs) k 0 < 256
chunk-lt xs at fits k h = subst (λ x. x < 256) (sym (get_or-chunk at LANES xs k 0 h)) (fits (at + k))
