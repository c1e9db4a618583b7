use Rattle.std.proofs.Common.{sym, arith}
use Rattle.gf256.proofs.Laws.{product-zero_right, product-one_right}
use Rattle.lrc_code.proofs.recipes.times_weight.Goals as goal

pub returns-in-0 : goal.returns-in-0
returns-in-0 c = rw c.in-0.is (sym (product-zero_right c.args.scale))

pub returns-in-1 : goal.returns-in-1
returns-in-1 c = rw c.in-1.is (sym (product-one_right c.args.scale (omega arith)))
