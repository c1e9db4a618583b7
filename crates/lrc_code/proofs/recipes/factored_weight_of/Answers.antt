use Rattle.std.proofs.Common.{ℕ, bit_xor, get_or, sym, ap, ap₂, ◌∙◌}
use Rattle.gf256.specs.Field.{product}
use Rattle.lrc_code.specs.Code.{weight}
use Rattle.lrc_code.proofs.Factors.{sum_of_four}
use Rattle.lrc_code.proofs.recipes.factored_weight_of.Goals as goal

pub returns : goal.returns
returns c =
    let a = λ (e : ℕ). get_or c.args.factors.now e 0 in
    ap₂ bit_xor (ap₂ bit_xor (ap₂ bit_xor
    (c.times_weight.ensures ∙ ap (product (a 0)) c.weight_of.ensures)
    (c.times_weight-2.ensures ∙ ap (product (a 1)) c.weight_of-2.ensures))
    (c.mul.ensures ∙ ap (product (a 2)) c.weight_of-3.ensures))
    (c.mul-2.ensures ∙ ap (product (a 3)) c.weight_of-4.ensures)
    ∙ sym (sum_of_four (λ e. product (a e) (weight c.args.code e c.args.i)))
