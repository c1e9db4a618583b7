use Rattle.std.proofs.Common.{None, arith}
use Rattle.std.specs.Prelude.{slice_index_or}
use Rattle.decode.specs.DecodePlan.{at_target}
use Rattle.decode.proofs.Planned.{decodable_by}
use Rattle.decode.proofs.plans.decode_by_plan.Goals as goal

pub returns-else-far_count-gt0-clause-first : goal.returns-else-far_count-gt0-clause-first
returns-else-far_count-gt0-clause-first c is =
    let plan = c.args.plan.now in
    c.rebuild_chosen.ensures (decodable_by c.args.left.now.code c.args.left.now.fragments plan.missing (slice_index_or plan.chosen 0 None) (at_target plan.shares 0) c.requires.absent (rw c.requires.code (is 0 (omega arith))))

pub returns-else-far_count-gt0-clause-second : goal.returns-else-far_count-gt0-clause-second
returns-else-far_count-gt0-clause-second c is =
    let plan = c.args.plan.now in
    c.rebuild_chosen-else-far_count-gt0.ensures (decodable_by c.args.left.now.code c.args.left.now.fragments plan.missing (slice_index_or plan.chosen 1 None) (at_target plan.shares 1) c.requires.absent (rw c.requires.code (is 1 (omega arith))))

pub returns-else-far_count-gt0-clause-third : goal.returns-else-far_count-gt0-clause-third
returns-else-far_count-gt0-clause-third c is =
    let plan = c.args.plan.now in
    c.rebuild_chosen-else-far_count-gt0-2.ensures (decodable_by c.args.left.now.code c.args.left.now.fragments plan.missing (slice_index_or plan.chosen 2 None) (at_target plan.shares 2) c.requires.absent (rw c.requires.code (is 2 (omega arith))))

pub returns-else-far_count-gt0-clause-fourth : goal.returns-else-far_count-gt0-clause-fourth
returns-else-far_count-gt0-clause-fourth c is =
    let plan = c.args.plan.now in
    c.rebuild_chosen-else-far_count-gt0-3.ensures (decodable_by c.args.left.now.code c.args.left.now.fragments plan.missing (slice_index_or plan.chosen 3 None) (at_target plan.shares 3) c.requires.absent (rw c.requires.code (is 3 (omega arith))))
