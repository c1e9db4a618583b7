use Rattle.std.proofs.Common.{◌≡◌, ◌+◌, ◌-◌, length, map, arith}
use Rattle.kernels.proofs.GroupLemmas.{parities_more}
use Rattle.kernels.specs.declared.lanes.TheConstants.{LANES}
use Rattle.kernels.proofs.groups.encode_lists.Goals as goal

pub encode_narrow-requires-clause-narrow : goal.encode_narrow-requires-clause-narrow
encode_narrow-requires-clause-narrow c = λ i d below. (let same = c.requires.same i d below in omega (arith, same))

pub whole-preserved : goal.whole-preserved
whole-preserved c =
    let b = c.encode_block.ensures in
    record {
      inside = omega arith;
      done = parities_more (map (λ s. s.now) c.args.sources.now) c.whole.first c.whole.second c.whole.third c.whole.fourth
          c.encode_block.new.first c.encode_block.new.second c.encode_block.new.third c.encode_block.new.fourth c.whole.at (c.whole.at + LANES)
          c.whole.invariant.done b.first_before b.second_before b.third_before b.fourth_before
          (λ k h. b.parities k (omega arith));
    }

pub returns : goal.returns
returns c =
    let b = c.encode_block-2.ensures in
    let w = length c.args.first.now in
    let same : length c.encode_block-2.new.first ≡ w = omega arith in
    let all = parities_more (map (λ s. s.now) c.args.sources.now) c.whole.first c.whole.second c.whole.third c.whole.fourth
    c.encode_block-2.new.first c.encode_block-2.new.second c.encode_block-2.new.third c.encode_block-2.new.fourth (w - LANES) w
    (λ k h. c.whole.invariant.done k (omega arith)) b.first_before b.second_before b.third_before b.fourth_before
    (λ k h. b.parities k (omega arith)) in
    λ k h. all k (omega arith)
