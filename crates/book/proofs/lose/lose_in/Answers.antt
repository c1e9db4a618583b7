use Rattle.std.proofs.Common.{sym}
use Rattle.book.specs.Losing.{Loses, value_at}
use Rattle.history.specs.Views.{lose_reply}
use Rattle.book.proofs.Replacing.{replaced_on_ok, unchanged_on_err, is_some_at as some_at}
use Rattle.book.proofs.Summing.{differ_at, loses_len}
use Rattle.book.proofs.lose.lose_in.Goals as goal

pub returns-in-Some-clause-ok : goal.returns-in-Some-clause-ok
returns-in-Some-clause-ok c =
    replaced_on_ok c.args.catalogue.now.entries _ c.args.name.now c.in-Some.stored.now c.lose.new.self c.in-Some.ensures.value c.lose.result
    (λ w x. lose_reply w x c.args.stripe c.args.fragment) (Loses c.args.stripe c.args.fragment)
    (λ some. ((c.get_mut.follows.holds c.lose.new.self).3 some).0) c.lose.ensures.answer c.lose.ensures.changed

pub returns-in-Some-clause-err : goal.returns-in-Some-clause-err
returns-in-Some-clause-err c =
    unchanged_on_err c.args.catalogue.now.entries _ c.args.name.now c.in-Some.stored.now c.lose.new.self c.in-Some.ensures.value c.lose.result
    (c.get_mut.follows.holds c.lose.new.self).0 c.lose.ensures.err

pub returns-in-Some-clause-totals : goal.returns-in-Some-clause-totals
returns-in-Some-clause-totals c =
    differ_at c.args.catalogue.now.entries _ c.args.name.now c.in-Some.stored.now c.lose.new.self c.lose.result (Loses c.args.stripe c.args.fragment) c.in-Some.ensures.value
    (sym (((c.get_mut.follows.holds c.lose.new.self).3 (some_at (value_at c.args.catalogue.now.entries c.args.name.now) c.in-Some.stored.now c.in-Some.ensures.value)).1))
    (c.get_mut.follows.holds c.lose.new.self).0 (loses_len c.args.stripe c.args.fragment) c.lose.ensures.changed c.lose.ensures.err
