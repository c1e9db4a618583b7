use Rattle.std.proofs.Common.{◌≡◌, ℕ, ◌<◌, ◌≤◌, ◌&&◌, ◌==◌, List, true, false, length, ltb, sym, ap, ◌∙◌, arith, inl, inr}
use Rattle.std.specs.Prelude.{is_none}
use Rattle.std.proofs.lemmas.Bool.{cases_lt}
use Rattle.std.proofs.lemmas.Grind.{common_steps}
use Rattle.std.proofs.lemmas.Nat.Bits.{bit_at_mask_inside, bit_at_mask_below, bit_at_mask_above}
use Rattle.lrc_code.specs.declared.Code.{Code}
use Rattle.lrc_code.specs.declared.Code.TheVariants.{Wide, Small}
use Rattle.lrc_code.specs.Code.{is_lost}
use Rattle.sealed.specs.Stripes.{Stripes, fragment_at}
use Rattle.sealed.specs.Packed.{packed, part_of, held_by, parities_by}
use Rattle.sealed.specs.Layout.{stripe_size}
use Rattle.sealed.proofs.Packing.{packed_count, packed_at, blob_at, last_at, parities_at}
use Rattle.sealed.proofs.packed.Packed.lost.Goals as goal

none_of_wide : (w : ℕ) (held parities : List ℕ) (f : ℕ) → (ltb f 16 && is_none (part_of Wide w held parities f)) ≡ false
none_of_wide w held parities f = grind (arith, common_steps)

below_ten : (w : ℕ) (held parities : List ℕ) (f : ℕ) → f < 10 → (ltb f 16 && is_none (part_of Small w held parities f)) ≡ false
below_ten w held parities f l = grind (arith, common_steps)

from_ten : (w : ℕ) (held parities : List ℕ) (f : ℕ) → 10 ≤ f → f < 16 → (ltb f 16 && is_none (part_of Small w held parities f)) ≡ true
from_ten w held parities f h l = grind (arith, common_steps)

past : (w : ℕ) (held parities : List ℕ) (f : ℕ) → 16 ≤ f → (ltb f 16 && is_none (part_of Small w held parities f)) ≡ false
past w held parities f h = grind (arith, common_steps)

six_of_small : (w : ℕ) (held parities : List ℕ) (f : ℕ) → is_lost 64512 f ≡ (ltb f 16 && is_none (part_of Small w held parities f))
six_of_small w held parities f =
    elim (cases_lt f 10) [
      | inl below ↦ ap (λ b. b == 1) (bit_at_mask_below 10 16 f below) ∙ sym (below_ten w held parities f below)
      | inr from ↦ elim (cases_lt f 16) [
        | inl below ↦ ap (λ b. b == 1) (bit_at_mask_inside 10 16 f from below) ∙ sym (from_ten w held parities f from below)
        | inr above ↦ ap (λ b. b == 1) (bit_at_mask_above 10 16 f above) ∙ sym (past w held parities f above)
      ]
    ]

-- the fragment f of a stripe that is seen, by its code
seen_at : (code : Code) (w : ℕ) (blob last parities : List ℕ) (count : ℕ) (stripes : Stripes) → packed code w blob last parities count ≡ stripes → (j f : ℕ) → j < length stripes
    → fragment_at stripes j f ≡ part_of code w (held_by (stripe_size code w) blob last j) (parities_by w parities j) f
seen_at code w blob last parities count stripes seen j f l =
    sym (ap (λ (t : Stripes). fragment_at t j f) seen)
    ∙ packed_at code w blob last parities count j f (let long = packed_count code w blob last parities count in let same = ap length seen in omega arith)

pub returns-in-Wide : goal.returns-in-Wide
returns-in-Wide c j f l =
    let p = c.self.inside in
    let at = seen_at Wide p.width (blob_at p) (last_at p) (parities_at p) p.count c.args.self.now (ap (λ code. packed code p.width (blob_at p) (last_at p) (parities_at p) p.count) (sym c.in-Wide.is) ∙ c.self.view_is) j f l in
    c.empty.ensures f ∙ sym (ap (λ o. ltb f 16 && is_none o) at ∙ none_of_wide _ _ _ f)

pub returns-in-Small : goal.returns-in-Small
returns-in-Small c j f l =
    let p = c.self.inside in
    let at = seen_at Small p.width (blob_at p) (last_at p) (parities_at p) p.count c.args.self.now (ap (λ code. packed code p.width (blob_at p) (last_at p) (parities_at p) p.count) (sym c.in-Small.is) ∙ c.self.view_is) j f l in
    c.of_bits.ensures f ∙ six_of_small _ _ _ f ∙ sym (ap (λ o. ltb f 16 && is_none o) at)
