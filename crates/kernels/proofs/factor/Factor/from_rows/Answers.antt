use Rattle.std.proofs.Common.{◌%◌, ◌∙◌, arith}
use Rattle.kernels.proofs.factor.Factor.from_rows.Goals as goal

pub invariant_of-result : goal.invariant_of-result
invariant_of-result c = record {
  low_is = λ k h. c.spread.ensures k h ∙ c.requires.low (k % 16) (omega arith);
  high_is = λ k h. c.spread-2.ensures k h ∙ c.requires.high (k % 16) (omega arith);
}
