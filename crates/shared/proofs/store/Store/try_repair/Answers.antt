use Rattle.std.proofs.Common.{inr}
use Rattle.shared.proofs.Mends.{can_install, looks_then_installed}
use Rattle.shared.proofs.store.Store.try_repair.Goals as goal

pub try_make-requires-clause-can : goal.try_make-requires-clause-can
try_make-requires-clause-can c =
    let found = c.in-Rebuildable.ensures.found in
    can_install c.try_inspect.new.pass c.args.name c.in-Rebuildable.sealed.value c.args.stripe c.args.fragment c.in-Ok.install found.known found.rebuildable c.in-Ok.ensures.ok

pub returns-clause-called : goal.returns-clause-called
returns-clause-called c =
    looks_then_installed c.args.pass.now c.try_inspect.new.pass c.try_make.new.pass c.args.name c.in-Rebuildable.sealed.value c.args.stripe c.args.fragment c.in-Ok.install c.try_make.result c.in-Rebuildable.ensures.found c.in-Ok.ensures.ok c.try_make.ensures.called

pub returns-clause-busy : goal.returns-clause-busy
returns-clause-busy c = λ busy.
    inr (c.in-Rebuildable.sealed.value, c.try_inspect.new.pass, c.in-Rebuildable.ensures.found, c.try_make.ensures.busy busy)
