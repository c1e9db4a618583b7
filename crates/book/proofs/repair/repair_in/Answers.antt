use Rattle.std.proofs.Common.{sym}
use Rattle.book.specs.Losing.{Mends, value_at}
use Rattle.history.specs.Views.{repair_reply}
use Rattle.book.proofs.Replacing.{replaced_on_ok, unchanged_on_err, is_some_at as some_at}
use Rattle.book.proofs.Summing.{differ_at, mends_len}
use Rattle.book.proofs.repair.repair_in.Goals as goal

pub returns-in-Some-clause-ok : goal.returns-in-Some-clause-ok
returns-in-Some-clause-ok c =
    replaced_on_ok c.args.catalogue.now.entries _ c.args.name.now c.in-Some.stored.now c.repair.new.self c.in-Some.ensures.value c.repair.result
    (λ w x. repair_reply w x c.args.stripe c.args.fragment) (Mends c.args.stripe c.args.fragment)
    (λ some. ((c.get_mut.follows.holds c.repair.new.self).3 some).0) c.repair.ensures.answer c.repair.ensures.changed

pub returns-in-Some-clause-err : goal.returns-in-Some-clause-err
returns-in-Some-clause-err c =
    unchanged_on_err c.args.catalogue.now.entries _ c.args.name.now c.in-Some.stored.now c.repair.new.self c.in-Some.ensures.value c.repair.result
    (c.get_mut.follows.holds c.repair.new.self).0 c.repair.ensures.err

pub returns-in-Some-clause-totals : goal.returns-in-Some-clause-totals
returns-in-Some-clause-totals c =
    differ_at c.args.catalogue.now.entries _ c.args.name.now c.in-Some.stored.now c.repair.new.self c.repair.result (Mends c.args.stripe c.args.fragment) c.in-Some.ensures.value
    (sym (((c.get_mut.follows.holds c.repair.new.self).3 (some_at (value_at c.args.catalogue.now.entries c.args.name.now) c.in-Some.stored.now c.in-Some.ensures.value)).1))
    (c.get_mut.follows.holds c.repair.new.self).0 (mends_len c.args.stripe c.args.fragment) c.repair.ensures.changed c.repair.ensures.err
