use Rattle.std.proofs.Common.{arith}
use Rattle.sealed.specs.Sealed.{absent_in}
use Rattle.session.proofs.LostCounts.{lost_least, count_of}
use Rattle.session.proofs.version.Version.count_lost.Goals as goal

pub overflow_add-count : goal.overflow_add-count
overflow_add-count c =
    let s = c.self.inside.snapshot in
    let l = c.loop-stripe in
    omega (arith, lost_least s l.stripe, count_of s.code (absent_in s l.stripe), l.invariant, c.count_in-count.ensures, s.shaped.count, s.shaped.few, c.stripes-stripe-end.ensures)
