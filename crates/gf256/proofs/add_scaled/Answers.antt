use Rattle.std.proofs.Common.{get_or, bit_xor, ap, sym, ◌∙◌}
use Rattle.gf256.proofs.Laws.{product-one_left}
use Rattle.gf256.proofs.add_scaled.Goals as goal

pub returns-then-scale-eq1 : goal.returns-then-scale-eq1
returns-then-scale-eq1 c k l =
    let x = get_or c.args.source.now k 0 in
    rw c.if-scale-eq1.true (c.xor_into.ensures k l ∙ ap (bit_xor (get_or c.args.target.now k 0)) (sym (product-one_left x (c.type_inv.source k).fits)))
