use Rattle.std.proofs.Common.{None, map}
use Rattle.std.specs.Prelude.{slice_index_or}
use Rattle.coder_c.proofs.Chosen.{decodes_by_slots, open_by_slots}
use Rattle.coder_c.proofs.remaining.decode_from_slots.Goals as goal

pub returns-clause-first : goal.returns-clause-first
returns-clause-first c done =
    decodes_by_slots c.args.code (map (λ f. f.now) c.args.fragments.now) c.args.lost c.left_of-left.result.fragments c.left_of-left.ensures.absent c.left_of-left.ensures.bytes c.left_of-left.result.code
    (slice_index_or c.args.chosen 0 None) c.args.from c.args.to c.args.first.now c.decode_to.new.first c.left_of-left.ensures.code (c.decode_to.ensures.first done)

pub returns-clause-second : goal.returns-clause-second
returns-clause-second c done =
    decodes_by_slots c.args.code (map (λ f. f.now) c.args.fragments.now) c.args.lost c.left_of-left.result.fragments c.left_of-left.ensures.absent c.left_of-left.ensures.bytes c.left_of-left.result.code
    (slice_index_or c.args.chosen 1 None) c.args.from c.args.to c.args.second.now c.decode_to.new.second c.left_of-left.ensures.code (c.decode_to.ensures.second done)

pub returns-clause-third : goal.returns-clause-third
returns-clause-third c done =
    decodes_by_slots c.args.code (map (λ f. f.now) c.args.fragments.now) c.args.lost c.left_of-left.result.fragments c.left_of-left.ensures.absent c.left_of-left.ensures.bytes c.left_of-left.result.code
    (slice_index_or c.args.chosen 2 None) c.args.from c.args.to c.args.third.now c.decode_to.new.third c.left_of-left.ensures.code (c.decode_to.ensures.third done)

pub returns-clause-fourth : goal.returns-clause-fourth
returns-clause-fourth c done =
    decodes_by_slots c.args.code (map (λ f. f.now) c.args.fragments.now) c.args.lost c.left_of-left.result.fragments c.left_of-left.ensures.absent c.left_of-left.ensures.bytes c.left_of-left.result.code
    (slice_index_or c.args.chosen 3 None) c.args.from c.args.to c.args.fourth.now c.decode_to.new.fourth c.left_of-left.ensures.code (c.decode_to.ensures.fourth done)

pub returns-clause-open : goal.returns-clause-open
returns-clause-open c =
    let same = open_by_slots c.args.code (map (λ f. f.now) c.args.fragments.now) c.args.lost c.left_of-left.result.fragments c.left_of-left.ensures.absent c.left_of-left.ensures.bytes c.left_of-left.result.code c.args.chosen c.left_of-left.ensures.code in
    (λ none. same.0 (c.decode_to.ensures.open.0 none), λ h. c.decode_to.ensures.open.1 (same.1 h))
