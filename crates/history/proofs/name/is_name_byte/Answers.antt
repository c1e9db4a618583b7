use Rattle.std.proofs.Common.{◌≡◌, ℕ, ◌/◌, ◌%◌, ◌^◌, Bool, true, false, nat_eq, bit_and, slice_index_or, cond, not, refl, arith, ap, ◌∙◌}
use Rattle.gf256.proofs.Laws.{all_below, every_below}
use Rattle.history.specs.Names.{is_name_byte as is_plain}
use Rattle.history.specs.declared.name.TheConstants.{NAME_BYTES}
use Rattle.history.proofs.name.is_name_byte.Goals as goal

-- the bit of a byte
abbrev has_bit : ℕ → Bool
has_bit c = nat_eq (bit_and (slice_index_or NAME_BYTES (c / 32) 0 / 2 ^ (c % 32)) 1) 1

agree : (a b : Bool) → cond a b (not b) ≡ true → a ≡ b
agree true true e = refl
agree true false e = absurd (cc (e))
agree false true e = absurd (cc (e))
agree false false e = refl

-- of all bytes
has_each : all_below (λ c. cond (has_bit c) (is_plain c) (not (is_plain c))) 256 ≡ true
has_each = refl

pub returns : goal.returns
returns c =
    ap (λ i. nat_eq (bit_and (slice_index_or NAME_BYTES i 0 / 2 ^ (c.args.c % 32)) 1) 1) c.from.ensures
    ∙ agree (has_bit c.args.c) (is_plain c.args.c) (every_below (λ k. cond (has_bit k) (is_plain k) (not (is_plain k))) 256 has_each c.args.c (omega arith))
