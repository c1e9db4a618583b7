use Rattle.std.proofs.Common.{arith}
use Rattle.sealed.proofs.Running.{are_blob, none_at, run_ends, stripes_end, stripes_reach}
use Rattle.sealed.proofs.value.Sealed.run.Goals as goal

pub returns-then-not-is_empty-clause-bytes : goal.returns-then-not-is_empty-clause-bytes
returns-then-not-is_empty-clause-bytes c =
    are_blob c.args.self.now c.args.start c.run-run.result.now (omega (arith, c.run-run.ensures.few, c.requires)) c.run-run.ensures.bytes

pub returns-then-not-is_empty-clause-none : goal.returns-then-not-is_empty-clause-none
returns-then-not-is_empty-clause-none c = none_at c.args.self.now c.args.start c.run-run.result.now c.run-run.ensures.bytes

pub returns-then-not-is_empty-clause-reach : goal.returns-then-not-is_empty-clause-reach
returns-then-not-is_empty-clause-reach c here =
    let s = c.args.self.now in
    stripes_reach s.width c.args.start c.args.len c.run-run.result.now s.shaped.wide
    (λ none. grind (arith, none, c.is_empty.ensures, c.if-not-is_empty.true)) (stripes_end s c.args.start c.args.len c.run-run.result.now c.run-run.ensures.ends)

pub returns-then-not-is_empty-clause-ends : goal.returns-then-not-is_empty-clause-ends
returns-then-not-is_empty-clause-ends c = stripes_end c.args.self.now c.args.start c.args.len c.run-run.result.now c.run-run.ensures.ends

pub returns-clause-bytes : goal.returns-clause-bytes
returns-clause-bytes c =
    are_blob c.args.self.now c.args.start c.rest_of_fragment.result.now (omega (arith, c.rest_of_fragment.ensures.few, c.requires)) c.rest_of_fragment.ensures.bytes

pub returns-clause-none : goal.returns-clause-none
returns-clause-none c = none_at c.args.self.now c.args.start c.rest_of_fragment.result.now c.rest_of_fragment.ensures.bytes

pub returns-clause-ends : goal.returns-clause-ends
returns-clause-ends c = run_ends c.args.self.now c.args.start c.args.len c.rest_of_fragment.result.now c.rest_of_fragment.ensures.bytes c.rest_of_fragment.ensures.long
