use Rattle.std.proofs.Common.{sym}
use Rattle.book.specs.Losing.{Restores, value_at}
use Rattle.history.specs.Views.{restore_reply}
use Rattle.book.proofs.Replacing.{replaced_on_ok, unchanged_on_err, is_some_at as some_at}
use Rattle.book.proofs.Summing.{differ_at, restores_len}
use Rattle.book.proofs.restore.restore_in.Goals as goal

pub returns-in-Some-clause-ok : goal.returns-in-Some-clause-ok
returns-in-Some-clause-ok c =
    replaced_on_ok c.args.catalogue.now.entries _ c.args.name.now c.in-Some.stored.now c.restore.new.self c.in-Some.ensures.value c.restore.result
    (λ w x. restore_reply w x c.args.version c.args.stripe c.args.fragment) (Restores c.args.version c.args.stripe c.args.fragment c.args.bytes)
    (λ some. ((c.get_mut.follows.holds c.restore.new.self).3 some).0) c.restore.ensures.answer c.restore.ensures.changed

pub returns-in-Some-clause-err : goal.returns-in-Some-clause-err
returns-in-Some-clause-err c =
    unchanged_on_err c.args.catalogue.now.entries _ c.args.name.now c.in-Some.stored.now c.restore.new.self c.in-Some.ensures.value c.restore.result
    (c.get_mut.follows.holds c.restore.new.self).0 c.restore.ensures.err

pub returns-in-Some-clause-totals : goal.returns-in-Some-clause-totals
returns-in-Some-clause-totals c =
    differ_at c.args.catalogue.now.entries _ c.args.name.now c.in-Some.stored.now c.restore.new.self c.restore.result (Restores c.args.version c.args.stripe c.args.fragment c.args.bytes) c.in-Some.ensures.value
    (sym (((c.get_mut.follows.holds c.restore.new.self).3 (some_at (value_at c.args.catalogue.now.entries c.args.name.now) c.in-Some.stored.now c.in-Some.ensures.value)).1))
    (c.get_mut.follows.holds c.restore.new.self).0 (restores_len c.args.version c.args.stripe c.args.fragment c.args.bytes) c.restore.ensures.changed c.restore.ensures.err
