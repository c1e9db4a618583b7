use Rattle.std.proofs.Common.{ℕ, bit_xor, sym, ap, ◌∙◌}
use Rattle.std.proofs.lemmas.Simd.{get_or-replicate}
use Rattle.gf256.specs.Field.{product}
use Rattle.one_pass.specs.Weights.{weight_in, lane}
use Rattle.one_pass.proofs.Units.{sum_of_four}
use Rattle.kernels.specs.declared.lanes.TheConstants.{LANES}
use Rattle.one_pass.proofs.weights.Weights.sums_at.Goals as goal

pub returns : goal.returns
returns c k h =
    let g = λ (e : ℕ). product (weight_in c.args.self.now e) (lane c.args.s k e) in
    c.plus_times_if.ensures k h
    ∙ ap (λ x. bit_xor x (g 3)) (c.plus_times-three.ensures k h
    ∙ ap (λ x. bit_xor x (g 2)) (c.plus_times_if-two.ensures k h
    ∙ ap (λ x. bit_xor x (g 1)) (c.plus_times-one.ensures k h
    ∙ ap (λ x. bit_xor x (g 0)) (get_or-replicate LANES k 0 0 h))))
    ∙ sym (sum_of_four g)
