use Rattle.std.proofs.Common.{None, map, arith}
use Rattle.std.specs.Prelude.{slice_index_or}
use Rattle.decode.specs.DecodePlan.{at_target}
use Rattle.coder_c.proofs.PutBack.{decodes_by_wanted}
use Rattle.coder_c.proofs.wide.decode_wide.Goals as goal

pub returns-clause-first : goal.returns-clause-first
returns-clause-first c is =
    let plan = c.args.plan.now in
    decodes_by_wanted plan.code (map (λ f. f.now) c.args.fragments.now) c.of_bits-missing.result plan.missing c.args.from c.args.to c.wanted_for-a.result (slice_index_or plan.chosen 0 None) (at_target plan.shares 0) c.args.first.now c.decode_wanted.new.first
    c.requires.code c.of_bits-missing.ensures c.wanted_for-a.ensures.chosen c.wanted_for-a.ensures.shares c.decode_wanted.ensures.first (is 0 (omega arith))

pub returns-clause-second : goal.returns-clause-second
returns-clause-second c is =
    let plan = c.args.plan.now in
    decodes_by_wanted plan.code (map (λ f. f.now) c.args.fragments.now) c.of_bits-missing.result plan.missing c.args.from c.args.to c.wanted_for-b.result (slice_index_or plan.chosen 1 None) (at_target plan.shares 1) c.args.second.now c.decode_wanted.new.second
    c.requires.code c.of_bits-missing.ensures c.wanted_for-b.ensures.chosen c.wanted_for-b.ensures.shares c.decode_wanted.ensures.second (is 1 (omega arith))

pub returns-clause-third : goal.returns-clause-third
returns-clause-third c is =
    let plan = c.args.plan.now in
    decodes_by_wanted plan.code (map (λ f. f.now) c.args.fragments.now) c.of_bits-missing.result plan.missing c.args.from c.args.to c.wanted_for-c.result (slice_index_or plan.chosen 2 None) (at_target plan.shares 2) c.args.third.now c.decode_wanted.new.third
    c.requires.code c.of_bits-missing.ensures c.wanted_for-c.ensures.chosen c.wanted_for-c.ensures.shares c.decode_wanted.ensures.third (is 2 (omega arith))

pub returns-clause-fourth : goal.returns-clause-fourth
returns-clause-fourth c is =
    let plan = c.args.plan.now in
    decodes_by_wanted plan.code (map (λ f. f.now) c.args.fragments.now) c.of_bits-missing.result plan.missing c.args.from c.args.to c.wanted_for-d.result (slice_index_or plan.chosen 3 None) (at_target plan.shares 3) c.args.fourth.now c.decode_wanted.new.fourth
    c.requires.code c.of_bits-missing.ensures c.wanted_for-d.ensures.chosen c.wanted_for-d.ensures.shares c.decode_wanted.ensures.fourth (is 3 (omega arith))
