use Rattle.std.proofs.Common.{◌∙◌, arith}
use Rattle.syndromes.proofs.combine.write_block.Goals as goal

pub returns-then-end-at-lt-LANES : goal.returns-then-end-at-lt-LANES
returns-then-end-at-lt-LANES c = record {
  first = λ k l. c.write_syndromes.ensures 0 k (omega arith) l;
  second_is = λ on k l. c.write_syndromes.ensures 1 k (omega arith) l;
  third_is = λ on k l. c.write_syndromes.ensures 2 k (omega arith) l;
  fourth_is = λ on k l. c.write_syndromes.ensures 3 k (omega arith) l;
}

pub returns : goal.returns
returns c =
    let same = c.sources_of-sources.ensures.syndromes in
    let w = c.write_taken in
    record {
      first = λ k l. w.ensures.first k (omega (arith, l, w.auto.first, c.requires.same)) ∙ same k 0 l (omega arith);
      second_is = λ on k l. w.ensures.second on k (omega (arith, l, w.auto.second, c.requires.same_second)) ∙ same k 1 l (omega arith);
      third_is = λ on k l. w.ensures.third on k (omega (arith, l, w.auto.third, c.requires.same_third)) ∙ same k 2 l (omega arith);
      fourth_is = λ on k l. w.ensures.fourth on k (omega (arith, l, w.auto.fourth, c.requires.same_fourth)) ∙ same k 3 l (omega arith);
    }
