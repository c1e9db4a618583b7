use Rattle.std.proofs.Common.{None, arith}
use Rattle.std.specs.Prelude.{slice_index_or}
use Rattle.decode.proofs.Places.{decoded}
use Rattle.decode.proofs.decoding.decode_by_syndromes.Goals as goal

pub returns-clause-first : goal.returns-clause-first
returns-clause-first c =
    decoded c.args.left.now.code c.args.left.now.fragments c.parts_of-parts.result (slice_index_or c.args.chosen 0 None) c.shares_for-a.result c.args.from c.args.to c.args.first.now c.combine_syndromes.new.first
    c.requires.range (c.requires.decodable 0 (omega arith)) c.shares_for-a.ensures c.requires.room (omega (arith, c.combine_syndromes.auto.first)) c.combine_syndromes.ensures.first c.combine_syndromes.ensures.first_unchanged c.parts_of-parts.ensures.bytes

pub returns-clause-second : goal.returns-clause-second
returns-clause-second c =
    decoded c.args.left.now.code c.args.left.now.fragments c.parts_of-parts.result (slice_index_or c.args.chosen 1 None) c.shares_for-b.result c.args.from c.args.to c.args.second.now c.combine_syndromes.new.second
    c.requires.range (c.requires.decodable 1 (omega arith)) c.shares_for-b.ensures c.requires.room_second (omega (arith, c.combine_syndromes.auto.second)) c.combine_syndromes.ensures.second c.combine_syndromes.ensures.second_unchanged c.parts_of-parts.ensures.bytes

pub returns-clause-third : goal.returns-clause-third
returns-clause-third c =
    decoded c.args.left.now.code c.args.left.now.fragments c.parts_of-parts.result (slice_index_or c.args.chosen 2 None) c.shares_for-c.result c.args.from c.args.to c.args.third.now c.combine_syndromes.new.third
    c.requires.range (c.requires.decodable 2 (omega arith)) c.shares_for-c.ensures c.requires.room_third (omega (arith, c.combine_syndromes.auto.third)) c.combine_syndromes.ensures.third c.combine_syndromes.ensures.third_unchanged c.parts_of-parts.ensures.bytes

pub returns-clause-fourth : goal.returns-clause-fourth
returns-clause-fourth c =
    decoded c.args.left.now.code c.args.left.now.fragments c.parts_of-parts.result (slice_index_or c.args.chosen 3 None) c.shares_for-d.result c.args.from c.args.to c.args.fourth.now c.combine_syndromes.new.fourth
    c.requires.range (c.requires.decodable 3 (omega arith)) c.shares_for-d.ensures c.requires.room_fourth (omega (arith, c.combine_syndromes.auto.fourth)) c.combine_syndromes.ensures.fourth c.combine_syndromes.ensures.fourth_unchanged c.parts_of-parts.ensures.bytes
