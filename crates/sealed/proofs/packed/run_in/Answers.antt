use Rattle.std.proofs.Common.{arith}
use Rattle.sealed.proofs.Running.{full_byte, full_ends, last_long, last_byte, last_ends}
use Rattle.sealed.proofs.packed.run_in.Goals as goal

pub returns-then-start-full-clause-bytes : goal.returns-then-start-full-clause-bytes
returns-then-start-full-clause-bytes c i low =
    full_byte c.args.blob.now c.args.last.now c.args.size c.args.start c.requires.size.0 c.min.result i (omega (arith, c.min.ensures)) low

pub returns-then-start-full-clause-ends : goal.returns-then-start-full-clause-ends
returns-then-start-full-clause-ends c =
    full_ends c.args.blob.now c.args.last.now c.args.size c.args.start c.requires.size.0 c.args.end c.min.result c.min.ensures c.if-start-full.true c.requires.some

pub slice_bounds-result-end-2 : goal.slice_bounds-result-end-2
slice_bounds-result-end-2 c =
    omega (arith, last_long c.args.blob.now c.args.last.now c.args.size c.args.start c.requires.size.0 c.if-start-full.false c.requires.hold, c.min-2.ensures)

pub returns-clause-bytes : goal.returns-clause-bytes
returns-clause-bytes c i low =
    last_byte c.args.blob.now c.args.last.now c.args.size c.args.start c.requires.size.0 c.if-start-full.false c.requires.hold c.min-2.result i (omega (arith, c.min-2.ensures)) low

pub returns-clause-ends : goal.returns-clause-ends
returns-clause-ends c =
    last_ends c.args.blob.now c.args.last.now c.args.size c.args.start c.requires.size.0 c.args.end c.min-2.result
    (last_long c.args.blob.now c.args.last.now c.args.size c.args.start c.requires.size.0 c.if-start-full.false c.requires.hold) c.min-2.ensures c.requires.some
