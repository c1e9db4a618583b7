use Rattle.std.proofs.Common.{◌≡◌, ◌∷◌, [], Result, Ok, IfOk, subst}
use Rattle.sealed.specs.declared.fault.Fault.{Fault}
use Rattle.history.specs.Step.{lose, repair, restore, stat, delete}
use Rattle.book.specs.declared.answer.Answer.{Answer}
use Rattle.book.specs.Holds.{CarriesOn}
use Rattle.book.proofs.Known.{known_after}
use Rattle.test_blobs.proofs.tests.books.make.Goals as goal

ok_at : (r : Result Answer Fault) (a : Answer) (P : Answer → Type 0) → r ≡ Ok a → IfOk r P → P a
ok_at r a P is h = subst (λ (x : Result Answer Fault). IfOk x P) is h

pub returns-in-Store : goal.returns-in-Store
returns-in-Store g c = known_after c.args.book.now c.store.new.book c.args.name.now 1 0 0 (65 ∷ []) _ c.store.ensures.width c.store.ensures.holds c.requires.0 c.requires.1 c.requires.2

pub returns-in-Lose : goal.returns-in-Lose
returns-in-Lose g c =
    known_after c.args.book.now c.lose.new.self c.args.name.now 1 0 0 (65 ∷ []) _ c.lose.ensures.unchanged.0
    (ok_at c.lose.result c.expect.result (CarriesOn c.args.book.now c.lose.new.self 1 (lose c.duplicate-copy.result 0 c.in-Lose.f)) c.expect.ensures c.lose.ensures.ok) c.requires.0 c.requires.1 c.requires.2

pub returns-in-Repair : goal.returns-in-Repair
returns-in-Repair g c =
    known_after c.args.book.now c.repair.new.self c.args.name.now 1 0 0 (65 ∷ []) _ c.repair.ensures.unchanged.0
    (ok_at c.repair.result c.expect-in-Repair.result (CarriesOn c.args.book.now c.repair.new.self 1 (repair c.duplicate-copy.result 0 c.in-Repair.f)) c.expect-in-Repair.ensures c.repair.ensures.ok) c.requires.0 c.requires.1 c.requires.2

pub returns-in-Install : goal.returns-in-Install
returns-in-Install g c =
    known_after c.args.book.now c.install.new.self c.args.name.now 1 0 0 (65 ∷ []) _ c.install.ensures.unchanged.0
    (ok_at c.install.result c.expect-in-Install.result (CarriesOn c.args.book.now c.install.new.self 1 (repair c.duplicate-copy.result 0 0)) c.expect-in-Install.ensures c.install.ensures.ok) c.requires.0 c.requires.1 c.requires.2

pub returns-in-Restore : goal.returns-in-Restore
returns-in-Restore g c =
    known_after c.args.book.now c.restore.new.self c.args.name.now 1 0 0 (65 ∷ []) _ c.restore.ensures.unchanged.0
    (ok_at c.restore.result c.expect-in-Restore.result (CarriesOn c.args.book.now c.restore.new.self 1 (restore c.duplicate-copy.result 1 0 0)) c.expect-in-Restore.ensures c.restore.ensures.ok) c.requires.0 c.requires.1 c.requires.2

pub returns-in-Stat : goal.returns-in-Stat
returns-in-Stat g c =
    known_after c.args.book.now c.stat.new.self c.args.name.now 1 0 0 (65 ∷ []) _ c.stat.ensures.unchanged.0
    (ok_at c.stat.result c.expect-in-Stat.result (CarriesOn c.args.book.now c.stat.new.self 1 (stat c.duplicate-copy.result)) c.expect-in-Stat.ensures c.stat.ensures.ok) c.requires.0 c.requires.1 c.requires.2

pub returns-in-Delete : goal.returns-in-Delete
returns-in-Delete g c =
    known_after c.args.book.now c.delete.new.self c.args.name.now 1 0 0 (65 ∷ []) _ c.delete.ensures.unchanged.0
    (ok_at c.delete.result c.expect-in-Delete.result (CarriesOn c.args.book.now c.delete.new.self 1 (delete c.duplicate-copy.result)) c.expect-in-Delete.ensures c.delete.ensures.ok) c.requires.0 c.requires.1 c.requires.2
