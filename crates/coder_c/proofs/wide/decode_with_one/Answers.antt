use Rattle.std.proofs.Common.{map, refl, arith}
use Rattle.coder_c.proofs.PutBack.{decodes_after_one}
use Rattle.coder_c.proofs.wide.decode_with_one.Goals as goal

pub returns-clause-second : goal.returns-clause-second
returns-clause-second c =
    decodes_after_one (map (λ f. f.now) c.args.fragments.now) c.args.missing c.args.from c.args.to c.args.f c.from.result c.args.made.now c.fill_parts.new.parts c.args.made c.args.b c.without_group.result c.given-two.result c.args.second.now c.combine_syndromes.new.first
    c.requires.range (record { gone = c.fill_parts.ensures.lost; here = c.fill_parts.ensures.bytes }) c.fill_parts.ensures.count refl c.requires.f.0 c.requires.f.1 c.requires.made_long c.requires.made
    c.requires.other c.without_group.ensures c.given-two.ensures c.requires.room_second (omega (arith, c.combine_syndromes.auto.first)) c.from.ensures c.combine_syndromes.ensures.first c.combine_syndromes.ensures.first_unchanged

pub returns-clause-third : goal.returns-clause-third
returns-clause-third c =
    decodes_after_one (map (λ f. f.now) c.args.fragments.now) c.args.missing c.args.from c.args.to c.args.f c.from.result c.args.made.now c.fill_parts.new.parts c.args.made c.args.c c.without_group-2.result c.given-three.result c.args.third.now c.combine_syndromes.new.second
    c.requires.range (record { gone = c.fill_parts.ensures.lost; here = c.fill_parts.ensures.bytes }) c.fill_parts.ensures.count refl c.requires.f.0 c.requires.f.1 c.requires.made_long c.requires.made
    c.requires.other_third c.without_group-2.ensures c.given-three.ensures c.requires.room_third (omega (arith, c.combine_syndromes.auto.second)) c.from.ensures c.combine_syndromes.ensures.second c.combine_syndromes.ensures.second_unchanged

pub returns-clause-fourth : goal.returns-clause-fourth
returns-clause-fourth c =
    decodes_after_one (map (λ f. f.now) c.args.fragments.now) c.args.missing c.args.from c.args.to c.args.f c.from.result c.args.made.now c.fill_parts.new.parts c.args.made c.args.d c.without_group-3.result c.given-four.result c.args.fourth.now c.combine_syndromes.new.third
    c.requires.range (record { gone = c.fill_parts.ensures.lost; here = c.fill_parts.ensures.bytes }) c.fill_parts.ensures.count refl c.requires.f.0 c.requires.f.1 c.requires.made_long c.requires.made
    c.requires.other_fourth c.without_group-3.ensures c.given-four.ensures c.requires.room_fourth (omega (arith, c.combine_syndromes.auto.third)) c.from.ensures c.combine_syndromes.ensures.third c.combine_syndromes.ensures.third_unchanged
