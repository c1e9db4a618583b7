use Rattle.std.proofs.Common.{ℕ, List, [], ◌∷◌, get_or, bit_xor, ap, ap₂, ◌∙◌, arith}
use Rattle.gf256.specs.Field.{product}
use Rattle.lrc_code.specs.Code.{weight}
use Rattle.lrc_code.specs.ParityCheck.{IsParityCheck}
use Rattle.lrc_code.specs.declared.recipes.ParityCheck.TheVariants.{Global}
use Rattle.lrc_code.proofs.Checks.{check_by_weights}
use Rattle.lrc_code.proofs.Factors.{sum_of_four, first_alone, second_alone}
use Rattle.lrc_code.proofs.recipes.factors_of.Goals as goal

pub returns-in-First : goal.returns-in-First
returns-in-First c = rw c.in-First.is (first_alone c.args.code)

pub returns-in-Second : goal.returns-in-Second
returns-in-Second c = rw c.in-Second.is (second_alone c.args.code)

pub returns-in-Global : goal.returns-in-Global
returns-in-Global c =
    let code = c.args.code in
    let check = c.in-Global in
    let inside : IsParityCheck code (Global check.p check.q check.g check.scale) = rw c.in-Global.is at c.requires in
    let factors : List ℕ = bit_xor c.mul.result c.mul-in-Global.result ∷ bit_xor c.mul-in-Global-2.result c.mul-in-Global-3.result ∷ c.mul-third.result ∷ c.mul-fourth.result ∷ [] in
    rw c.in-Global.is
    (λ i l.
    sum_of_four (λ e. product (get_or factors e 0) (weight code e i))
    ∙ check_by_weights code check.p check.q check.g i check.scale (get_or factors 0 0) (get_or factors 1 0) c.mul-third.result c.mul-fourth.result inside.0 inside.1 inside.2 l (omega arith) (omega arith) (omega arith)
    (c.mul-third.ensures ∙ ap (product check.scale) c.reduced_weight_of.ensures)
    (c.mul-fourth.ensures ∙ ap (product check.scale) c.reduced_weight_of-in-Global.ensures)
    (ap₂ bit_xor (c.mul.ensures ∙ ap (product c.mul-third.result) c.weight_of.ensures) (c.mul-in-Global.ensures ∙ ap (product c.mul-fourth.result) c.weight_of-in-Global.ensures))
    (ap₂ bit_xor (c.mul-in-Global-2.ensures ∙ ap (product c.mul-third.result) c.weight_of-in-Global-2.ensures) (c.mul-in-Global-3.ensures ∙ ap (product c.mul-fourth.result) c.weight_of-in-Global-3.ensures)))
