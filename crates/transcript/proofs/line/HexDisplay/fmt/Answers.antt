use Rattle.std.proofs.Common.{rules, refl, ◌≡◌, ◌∙◌, ℕ, ◌/◌, ◌%◌, List, [], ◌∷◌, ◌++◌, slice_index, sym, ap, arith, append_assoc}
use Rattle.std.specs.Fmt.{HasWritten}
use Rattle.std.proofs.lemmas.Grind.{common_steps, put_two}
use Rattle.hex.specs.Hex.{encode_lower, encode_with, lower_digits}
use Rattle.transcript.proofs.line.HexDisplay.fmt.Goals as goal

digits_append : (xs ys : List ℕ) → encode_lower xs ++ encode_lower ys ≡ encode_lower (xs ++ ys)
unfolding encode_with
digits_append [] ys = refl
digits_append (x ∷ xs) ys = ap (λ (t : List ℕ). slice_index lower_digits (x / 16) ∷ slice_index lower_digits (x % 16) ∷ t) (digits_append xs ys)

pub loop-rest-init : goal.loop-rest-init
unfolding encode_with
loop-rest-init g c = λ plain. ([], refl, first_of (search (rules, plain), grind (arith, common_steps, plain)))

pub loop-rest-preserved : goal.loop-rest-preserved
loop-rest-preserved g c = λ plain.
    let so_far = c.loop-rest.invariant plain in
    let first = c.split_at.result.0.now in
    let all : so_far.0 ++ (first ++ c.split_at.result.1.now) ≡ c.args.self.now.0.now = first_of (search (rules, so_far.1), grind (arith, common_steps, so_far.1)) in
    let written : HasWritten g.W.Write.write_str_gives c.loop-rest.f (encode_lower first) c.write_str-in-loop-rest.new.self =
    first_of (search (rules, so_far.2.plain), grind (arith, common_steps, so_far.2.plain)) in
    (so_far.0 ++ first, sym all ∙ sym (append_assoc so_far.0 first c.split_at.result.1.now), put_two _ _ _ _ _ _ _ so_far.2 written (digits_append so_far.0 first))
