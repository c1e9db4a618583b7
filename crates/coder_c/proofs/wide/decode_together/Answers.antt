use Rattle.std.proofs.Common.{map, arith}
use Rattle.coder_c.proofs.PutBack.{decodes_wanted}
use Rattle.coder_c.proofs.wide.decode_together.Goals as goal

pub returns-clause-first : goal.returns-clause-first
returns-clause-first c =
    decodes_wanted (map (λ f. f.now) c.args.fragments.now) c.args.missing c.args.from c.args.to c.fill_parts.new.parts c.args.a c.given-one.result c.args.first.now c.combine_syndromes.new.first
    c.requires.range (record { gone = c.fill_parts.ensures.lost; here = c.fill_parts.ensures.bytes }) c.given-one.ensures c.requires.room (omega (arith, c.combine_syndromes.auto.first)) c.combine_syndromes.ensures.first c.combine_syndromes.ensures.first_unchanged

pub returns-clause-second : goal.returns-clause-second
returns-clause-second c =
    decodes_wanted (map (λ f. f.now) c.args.fragments.now) c.args.missing c.args.from c.args.to c.fill_parts.new.parts c.args.b c.given-two.result c.args.second.now c.combine_syndromes.new.second
    c.requires.range (record { gone = c.fill_parts.ensures.lost; here = c.fill_parts.ensures.bytes }) c.given-two.ensures c.requires.room_second (omega (arith, c.combine_syndromes.auto.second)) c.combine_syndromes.ensures.second c.combine_syndromes.ensures.second_unchanged

pub returns-clause-third : goal.returns-clause-third
returns-clause-third c =
    decodes_wanted (map (λ f. f.now) c.args.fragments.now) c.args.missing c.args.from c.args.to c.fill_parts.new.parts c.args.c c.given-three.result c.args.third.now c.combine_syndromes.new.third
    c.requires.range (record { gone = c.fill_parts.ensures.lost; here = c.fill_parts.ensures.bytes }) c.given-three.ensures c.requires.room_third (omega (arith, c.combine_syndromes.auto.third)) c.combine_syndromes.ensures.third c.combine_syndromes.ensures.third_unchanged

pub returns-clause-fourth : goal.returns-clause-fourth
returns-clause-fourth c =
    decodes_wanted (map (λ f. f.now) c.args.fragments.now) c.args.missing c.args.from c.args.to c.fill_parts.new.parts c.args.d c.given-four.result c.args.fourth.now c.combine_syndromes.new.fourth
    c.requires.range (record { gone = c.fill_parts.ensures.lost; here = c.fill_parts.ensures.bytes }) c.given-four.ensures c.requires.room_fourth (omega (arith, c.combine_syndromes.auto.fourth)) c.combine_syndromes.ensures.fourth c.combine_syndromes.ensures.fourth_unchanged
