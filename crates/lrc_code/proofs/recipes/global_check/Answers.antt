use Rattle.std.proofs.Common.{◌≡◌, not, ◌&&◌, ap, sym, ◌∙◌, arith}
use Rattle.std.specs.Prelude.{◌==◌}
use Rattle.gf256.specs.Field.{product}
use Rattle.gf256.proofs.Laws.{product_comm}
use Rattle.lrc_code.specs.Code.{is_lost}
use Rattle.lrc_code.specs.ParityCheck.{found_place, determinant}
use Rattle.lrc_code.proofs.Solved.{Solving, determinant_some, scaled_determines}
use Rattle.lrc_code.proofs.Checks.{solving_found}
use Rattle.lrc_code.proofs.Short.{short_global}
use Rattle.lrc_code.proofs.recipes.global_check.Goals as goal

found : (c : goal.After-determinant_of) → Solving c.args.code (is_lost c.args.lost) c.args.f c.place-p.result c.place-q.result c.other-g.result
found c =
    rw (c.place-p.ensures.value, c.place-q.ensures.value, c.other-g.ensures.value)
    (solving_found c.args.code (is_lost c.args.lost) (is_lost c.without-others.result) (is_lost c.without_found-left_over.result) c.args.f
    c.first_of-first.result c.first_of-second.result c.first_of-found.result
    c.requires.f_below c.requires.f_lost c.requires.not_alone c.requires.few
    c.without-others.ensures (rw c.first_group.ensures.value at c.first_of-first.ensures.found) (rw c.second_group.ensures.value at c.first_of-second.ensures.found)
    (λ i l.
    c.without_found-left_over.ensures c.args.code i l
    ∙ ap (λ b. not (i == found_place c.args.code c.first_of-second.result) && b)
    (c.without_found.ensures c.args.code i l ∙ ap (λ b. not (i == found_place c.args.code c.first_of-first.result) && b) (c.without-others.ensures i)))
    (rw c.all.ensures.value at c.first_of-found.ensures.found))

determinant_is : (c : goal.After-determinant_of) → c.determinant_of.result ≡ determinant c.args.code c.place-p.result c.place-q.result c.other-g.result c.args.f
determinant_is c = c.determinant_of.ensures ∙ ap (determinant c.args.code c.place-p.result c.place-q.result c.other-g.result) c.from.ensures

pub inverse_of-scale-requires : goal.inverse_of-scale-requires
inverse_of-scale-requires c e =
    determinant_some c.args.code (is_lost c.args.lost) c.args.f c.place-p.result c.place-q.result c.other-g.result (found c) (sym (determinant_is c) ∙ e)

pub returns-clause-determines : goal.returns-clause-determines
returns-clause-determines c =
    scaled_determines c.args.code (is_lost c.args.lost) c.args.f c.place-p.result c.place-q.result c.other-g.result c.inverse_of-scale.result (found c.before) c.inverse_of-scale.type_inv
    (ap (λ t. product t c.inverse_of-scale.result) (sym (determinant_is c.before)) ∙ c.inverse_of-scale.ensures)

pub returns-clause-one : goal.returns-clause-one
returns-clause-one c =
    let is = determinant_is c.before in
    ap (product c.inverse_of-scale.result) (sym is)
    ∙ product_comm c.inverse_of-scale.result c.determinant_of.result (omega arith) (omega arith)
    ∙ c.inverse_of-scale.ensures

pub returns-clause-short : goal.returns-clause-short
returns-clause-short c = short_global c.args.code (is_lost c.args.lost) c.args.f c.place-p.result c.place-q.result c.other-g.result (found c.before) c.inverse_of-scale.result
