use Rattle.requests.specs.Requests.{operation_of}
use Rattle.shared.proofs.Requests.{was_busy, busy_pass}
use Rattle.shared.proofs.Visits.{can_visit, made_follows, made, is_called, is_granted, is_wanted}
use Rattle.shared.proofs.store.Store.try_prepared.Goals as goal

pub try_visit-requires-clause-can : goal.try_visit-requires-clause-can
try_visit-requires-clause-can c = can_visit c.pass.inside.seat c.pass.inside.who c.args.request c.args.pass.now c.pass.view_is c.pass.invariant c.requires.can

pub try_visit-requires-clause-follows : goal.try_visit-requires-clause-follows
try_visit-requires-clause-follows c = λ x y reply can did. made_follows c.pass.inside.who c.args.request x.0.value y.0.value reply did

pub invariant_of-pass : goal.invariant_of-pass
invariant_of-pass c = (made c.pass.inside.seat c.try_visit.new.seat c.pass.inside.who c.args.request c.in-Ok.reply c.args.pass.now c.pass.view_is c.pass.invariant c.in-Ok.ensures.visited).pass

pub returns-in-Ok-clause-called : goal.returns-in-Ok-clause-called
returns-in-Ok-clause-called c = is_called c.pass.inside.seat c.try_visit.new.seat c.pass.inside.who c.args.request c.in-Ok.reply c.args.pass.now c.pass.view_is c.pass.invariant c.in-Ok.ensures.visited c.requires.can

pub returns-in-Ok-clause-granted : goal.returns-in-Ok-clause-granted
returns-in-Ok-clause-granted c =
    is_granted c.pass.inside.seat c.try_visit.new.seat c.pass.inside.who c.args.request c.in-Ok.reply c.args.pass.now c.pass.view_is c.pass.invariant c.in-Ok.ensures.visited
    c.args.self.now c.requires.store

pub returns-in-Ok-clause-no_memory : goal.returns-in-Ok-clause-no_memory
returns-in-Ok-clause-no_memory c =
    is_wanted c.pass.inside.seat c.try_visit.new.seat c.pass.inside.who c.args.request c.in-Ok.reply c.args.pass.now c.pass.view_is c.pass.invariant c.in-Ok.ensures.visited
    c.args.self.now c.requires.store

-- ---- another thread was inside
pub invariant_of-pass-2 : goal.invariant_of-pass-2
invariant_of-pass-2 c = busy_pass c.pass.inside.seat c.try_visit.new.seat c.pass.invariant c.in-Err.ensures.busy

pub returns-clause-refused : goal.returns-clause-refused
returns-clause-refused c = was_busy c.pass.inside.seat c.try_visit.new.seat c.pass.inside.who c.args.pass.now (operation_of c.args.request) c.pass.invariant c.in-Err.ensures.busy c.pass.view_is
