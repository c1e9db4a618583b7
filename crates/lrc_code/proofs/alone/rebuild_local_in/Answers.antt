use Rattle.std.proofs.Common.{◌≤◌, length, map, arith}
use Rattle.lrc_code.specs.declared.Code.TheVariants.{Wide, Small}
use Rattle.lrc_code.specs.Code.{is_lost}
use Rattle.lrc_code.specs.Recipe.{ones_of}
use Rattle.lrc_code.specs.Stripe.{list_at}
use Rattle.lrc_code.proofs.Others.{others_at, in_code, in_rows, row_is_recipe, each_of_row}
use Rattle.lrc_code.proofs.Stripes.{rebuilt_from}
use Rattle.lrc_code.proofs.alone.rebuild_local_in.Goals as goal

pub bounds-from : goal.bounds-from
bounds-from c = in_rows c.args.code Wide (is_lost c.args.lost) c.args.f c.from.result c.in-Wide.is c.from.ensures c.requires.alone

pub add_slices-requires-clause-each : goal.add_slices-requires-clause-each
add_slices-requires-clause-each c =
    each_of_row c.args.code Wide (is_lost c.args.lost) c.args.f c.from.result c.in-Wide.is c.from.ensures c.requires.alone
    (λ i. c.args.to ≤ length (list_at (map (λ f. f.now) c.args.fragments.now) i)) c.requires.reach

pub returns-in-Wide : goal.returns-in-Wide
returns-in-Wide c =
    rebuilt_from c.args.code (is_lost c.args.lost) (list_at (map (λ f. f.now) c.args.fragments.now)) c.args.f c.args.from c.args.to (ones_of (others_at Wide c.from.result)) c.add_slices.new.bytes
    (in_code c.args.code (is_lost c.args.lost) c.args.f c.requires.alone) c.requires.range
    (row_is_recipe c.args.code Wide (is_lost c.args.lost) c.args.f c.from.result c.in-Wide.is c.from.ensures c.requires.alone)
    (omega (arith, c.add_slices.auto.bytes, c.requires.room)) c.add_slices.ensures

pub bounds-from-in-Small : goal.bounds-from-in-Small
bounds-from-in-Small c = in_rows c.args.code Small (is_lost c.args.lost) c.args.f c.from-in-Small.result c.in-Small.is c.from-in-Small.ensures c.requires.alone

pub add_slices-requires-in-Small-clause-each : goal.add_slices-requires-in-Small-clause-each
add_slices-requires-in-Small-clause-each c =
    each_of_row c.args.code Small (is_lost c.args.lost) c.args.f c.from-in-Small.result c.in-Small.is c.from-in-Small.ensures c.requires.alone
    (λ i. c.args.to ≤ length (list_at (map (λ f. f.now) c.args.fragments.now) i)) c.requires.reach

pub returns-in-Small : goal.returns-in-Small
returns-in-Small c =
    rebuilt_from c.args.code (is_lost c.args.lost) (list_at (map (λ f. f.now) c.args.fragments.now)) c.args.f c.args.from c.args.to (ones_of (others_at Small c.from-in-Small.result)) c.add_slices-in-Small.new.bytes
    (in_code c.args.code (is_lost c.args.lost) c.args.f c.requires.alone) c.requires.range
    (row_is_recipe c.args.code Small (is_lost c.args.lost) c.args.f c.from-in-Small.result c.in-Small.is c.from-in-Small.ensures c.requires.alone)
    (omega (arith, c.add_slices-in-Small.auto.bytes, c.requires.room)) c.add_slices-in-Small.ensures
