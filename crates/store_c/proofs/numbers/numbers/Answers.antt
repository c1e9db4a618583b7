use Rattle.std.proofs.Common.{Err, refl, ap, ◌∙◌}
use Rattle.store_c.specs.Status.{status_of_fault}
use Rattle.store_c.specs.Numbers.{counted, busy_counting}
use Rattle.store_c.proofs.numbers.numbers.Goals as goal

pub returns-in-Ok : goal.returns-in-Ok
returns-in-Ok c = counted refl c.in-Ok.ensures.takes c.in-Ok.ensures.ok c.in-Ok.ensures.entries

pub returns-in-Err : goal.returns-in-Err
returns-in-Err c =
    let is = c.in-Err.is ∙ ap Err c.in-Err.ensures.faults in
    busy_counting (c.number_of.ensures ∙ ap status_of_fault c.in-Err.ensures.faults) (c.numbers.ensures.busy is) (λ room. c.numbers.ensures.lone room is) refl
