use Rattle.std.proofs.Common.{refl, arith}
use Rattle.lrc_code.specs.declared.Code.TheVariants.{Wide, Small}
use Rattle.lrc_code.specs.Recipe.{ones_of}
use Rattle.lrc_code.specs.Stripe.{is_absent, Reaches}
use Rattle.lrc_code.proofs.Others.{others_at, in_rows, row_is_recipe, each_of_row}
use Rattle.lrc_code.proofs.Stripes.{rebuilt}
use Rattle.lrc_code.proofs.alone.rebuild_local_to.Goals as goal

pub bounds-f : goal.bounds-f
bounds-f c = in_rows c.args.left.now.code Wide (is_absent c.args.left.now.fragments) c.args.f c.args.f c.in-Wide.is refl c.requires.alone

pub add_present-requires-clause-each : goal.add_present-requires-clause-each
add_present-requires-clause-each c = each_of_row c.args.left.now.code Wide (is_absent c.args.left.now.fragments) c.args.f c.args.f c.in-Wide.is refl c.requires.alone (Reaches c.args.left.now.fragments c.args.to) c.requires.inside.long

pub returns-in-Wide : goal.returns-in-Wide
returns-in-Wide c =
    rebuilt c.args.left.now.code (is_absent c.args.left.now.fragments) c.args.left.now.fragments c.args.f c.args.from c.args.to (ones_of (others_at Wide c.args.f)) c.add_present.new.bytes
    (λ i l. refl) c.requires.inside.below c.requires.inside.range
    (row_is_recipe c.args.left.now.code Wide (is_absent c.args.left.now.fragments) c.args.f c.args.f c.in-Wide.is refl c.requires.alone)
    (omega (arith, c.add_present.auto.bytes, c.requires.room)) c.add_present.ensures

pub bounds-f-in-Small : goal.bounds-f-in-Small
bounds-f-in-Small c = in_rows c.args.left.now.code Small (is_absent c.args.left.now.fragments) c.args.f c.args.f c.in-Small.is refl c.requires.alone

pub add_present-requires-in-Small-clause-each : goal.add_present-requires-in-Small-clause-each
add_present-requires-in-Small-clause-each c = each_of_row c.args.left.now.code Small (is_absent c.args.left.now.fragments) c.args.f c.args.f c.in-Small.is refl c.requires.alone (Reaches c.args.left.now.fragments c.args.to) c.requires.inside.long

pub returns-in-Small : goal.returns-in-Small
returns-in-Small c =
    rebuilt c.args.left.now.code (is_absent c.args.left.now.fragments) c.args.left.now.fragments c.args.f c.args.from c.args.to (ones_of (others_at Small c.args.f)) c.add_present-in-Small.new.bytes
    (λ i l. refl) c.requires.inside.below c.requires.inside.range
    (row_is_recipe c.args.left.now.code Small (is_absent c.args.left.now.fragments) c.args.f c.args.f c.in-Small.is refl c.requires.alone)
    (omega (arith, c.add_present-in-Small.auto.bytes, c.requires.room)) c.add_present-in-Small.ensures
