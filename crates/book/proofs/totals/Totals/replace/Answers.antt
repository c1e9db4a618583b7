use Rattle.std.proofs.Common.{arith, ap}
use Rattle.book.specs.declared.totals.Totals.{Totals}
use Rattle.book.proofs.Summing.{bounded}
use Rattle.book.proofs.totals.Totals.replace.Goals as goal

pub overflow_add-self : goal.overflow_add-self
overflow_add-self c =
    let differ = c.requires.differ.2 in
    let was = c.requires.differ.1 in
    let bound = bounded c.args.blobs.now.entries (differ.small was.small) in
    omega (arith, c.len-count.ensures.len, c.len-count.ensures.small, bound.0, differ.bytes, ap (λ (t : Totals). t.bytes) was.are, c.requires.share.0)

pub overflow_add-self-2 : goal.overflow_add-self-2
overflow_add-self-2 c =
    let differ = c.requires.differ.2 in
    let was = c.requires.differ.1 in
    let bound = bounded c.args.blobs.now.entries (differ.small was.small) in
    omega (arith, c.len-count.ensures.len, c.len-count.ensures.small, bound.1, differ.lost, ap (λ (t : Totals). t.lost) was.are, c.requires.share.1)

pub overflow_add-self-3 : goal.overflow_add-self-3
overflow_add-self-3 c =
    let differ = c.requires.differ.2 in
    let was = c.requires.differ.1 in
    let bound = bounded c.args.blobs.now.entries (differ.small was.small) in
    omega (arith, c.len-count.ensures.len, c.len-count.ensures.small, bound.2, differ.unrecoverable, ap (λ (t : Totals). t.unrecoverable) was.are, c.requires.share.2)
