use Rattle.shared.proofs.Mends.{can_install, looks_then_installed}
use Rattle.shared.proofs.store.Store.repair.Goals as goal

pub make-requires-clause-can : goal.make-requires-clause-can
make-requires-clause-can g c =
    let found = c.in-Rebuildable.ensures.found in
    can_install c.inspect.new.pass c.args.name c.in-Rebuildable.sealed.value c.args.stripe c.args.fragment c.in-Ok.install found.known found.rebuildable c.in-Ok.ensures.ok

pub returns-clause-called : goal.returns-clause-called
returns-clause-called g c =
    looks_then_installed c.args.pass.now c.inspect.new.pass c.make.new.pass c.args.name c.in-Rebuildable.sealed.value c.args.stripe c.args.fragment c.in-Ok.install c.make.result c.in-Rebuildable.ensures.found c.in-Ok.ensures.ok c.make.ensures.called
