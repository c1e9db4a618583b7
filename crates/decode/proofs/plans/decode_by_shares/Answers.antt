use Rattle.std.proofs.Common.{None, arith}
use Rattle.std.specs.Prelude.{slice_index_or}
use Rattle.decode.specs.DecodePlan.{at_target}
use Rattle.decode.proofs.Planned.{decoded_by}
use Rattle.decode.proofs.plans.decode_by_shares.Goals as goal

pub returns-clause-first : goal.returns-clause-first
returns-clause-first c is =
    let plan = c.args.plan.now in
    decoded_by c.args.left.now.code c.args.left.now.fragments c.parts_of-parts.result plan.missing (slice_index_or plan.chosen 0 None) (at_target plan.shares 0) c.given-a.result c.args.from c.args.to c.args.first.now c.combine_syndromes.new.first
    c.requires.range c.requires.absent (rw c.requires.code (is 0 (omega arith))) c.given-a.ensures c.requires.room (omega (arith, c.combine_syndromes.auto.first)) c.combine_syndromes.ensures.first c.combine_syndromes.ensures.first_unchanged c.parts_of-parts.ensures.bytes

pub returns-clause-second : goal.returns-clause-second
returns-clause-second c is =
    let plan = c.args.plan.now in
    decoded_by c.args.left.now.code c.args.left.now.fragments c.parts_of-parts.result plan.missing (slice_index_or plan.chosen 1 None) (at_target plan.shares 1) c.given-b.result c.args.from c.args.to c.args.second.now c.combine_syndromes.new.second
    c.requires.range c.requires.absent (rw c.requires.code (is 1 (omega arith))) c.given-b.ensures c.requires.room_second (omega (arith, c.combine_syndromes.auto.second)) c.combine_syndromes.ensures.second c.combine_syndromes.ensures.second_unchanged c.parts_of-parts.ensures.bytes

pub returns-clause-third : goal.returns-clause-third
returns-clause-third c is =
    let plan = c.args.plan.now in
    decoded_by c.args.left.now.code c.args.left.now.fragments c.parts_of-parts.result plan.missing (slice_index_or plan.chosen 2 None) (at_target plan.shares 2) c.given-c.result c.args.from c.args.to c.args.third.now c.combine_syndromes.new.third
    c.requires.range c.requires.absent (rw c.requires.code (is 2 (omega arith))) c.given-c.ensures c.requires.room_third (omega (arith, c.combine_syndromes.auto.third)) c.combine_syndromes.ensures.third c.combine_syndromes.ensures.third_unchanged c.parts_of-parts.ensures.bytes

pub returns-clause-fourth : goal.returns-clause-fourth
returns-clause-fourth c is =
    let plan = c.args.plan.now in
    decoded_by c.args.left.now.code c.args.left.now.fragments c.parts_of-parts.result plan.missing (slice_index_or plan.chosen 3 None) (at_target plan.shares 3) c.given-d.result c.args.from c.args.to c.args.fourth.now c.combine_syndromes.new.fourth
    c.requires.range c.requires.absent (rw c.requires.code (is 3 (omega arith))) c.given-d.ensures c.requires.room_fourth (omega (arith, c.combine_syndromes.auto.fourth)) c.combine_syndromes.ensures.fourth c.combine_syndromes.ensures.fourth_unchanged c.parts_of-parts.ensures.bytes
