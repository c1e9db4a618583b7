use Rattle.std.proofs.Common.{◌-◌, Some, set, map, refl, ◌∙◌, arith}
use Rattle.std.proofs.lemmas.List.{length-set}
use Rattle.coder_c.proofs.PutBack.{have_set, decodes_after_two}
use Rattle.coder_c.proofs.wide.decode_with_two.Goals as goal

pub combine_syndromes-requires-clause-long : goal.combine_syndromes-requires-clause-long
combine_syndromes-requires-clause-long c =
    let parts = c.fill_parts.new.parts in
    have_set (set parts c.from.result (Some c.args.made)) c.from-2.result (c.args.to - c.args.from) c.args.also (length-set parts c.from.result (Some c.args.made) ∙ c.fill_parts.ensures.count) (omega (arith, c.from-2.ensures, c.requires.g.0))
    (have_set parts c.from.result (c.args.to - c.args.from) c.args.made c.fill_parts.ensures.count (omega (arith, c.from.ensures, c.requires.f.0)) c.fill_parts.ensures.long (omega (arith, c.requires.made_long)))
    (omega (arith, c.requires.also_long))

pub returns-clause-third : goal.returns-clause-third
returns-clause-third c =
    decodes_after_two (map (λ f. f.now) c.args.fragments.now) c.args.missing c.args.from c.args.to c.args.f c.args.g c.from.result c.from-2.result c.args.made.now c.args.also.now c.fill_parts.new.parts c.args.made c.args.also c.args.c
    c.without_group.result c.without_group-2.result c.given-three.result c.args.third.now c.combine_syndromes.new.first
    c.requires.range (record { gone = c.fill_parts.ensures.lost; here = c.fill_parts.ensures.bytes }) c.fill_parts.ensures.count
    refl c.requires.f.0 c.requires.f.1 c.requires.made_long c.requires.made refl c.requires.g.0 c.requires.g.1 c.requires.also_long c.requires.also
    c.requires.other c.without_group.ensures c.without_group-2.ensures c.given-three.ensures c.requires.room_third (omega (arith, c.combine_syndromes.auto.first)) c.from.ensures c.from-2.ensures c.combine_syndromes.ensures.first c.combine_syndromes.ensures.first_unchanged

pub returns-clause-fourth : goal.returns-clause-fourth
returns-clause-fourth c =
    decodes_after_two (map (λ f. f.now) c.args.fragments.now) c.args.missing c.args.from c.args.to c.args.f c.args.g c.from.result c.from-2.result c.args.made.now c.args.also.now c.fill_parts.new.parts c.args.made c.args.also c.args.d
    c.without_group-3.result c.without_group-4.result c.given-four.result c.args.fourth.now c.combine_syndromes.new.second
    c.requires.range (record { gone = c.fill_parts.ensures.lost; here = c.fill_parts.ensures.bytes }) c.fill_parts.ensures.count
    refl c.requires.f.0 c.requires.f.1 c.requires.made_long c.requires.made refl c.requires.g.0 c.requires.g.1 c.requires.also_long c.requires.also
    c.requires.other_fourth c.without_group-3.ensures c.without_group-4.ensures c.given-four.ensures c.requires.room_fourth (omega (arith, c.combine_syndromes.auto.second)) c.from.ensures c.from-2.ensures c.combine_syndromes.ensures.second c.combine_syndromes.ensures.second_unchanged
