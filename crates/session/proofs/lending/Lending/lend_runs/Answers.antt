use Rattle.std.proofs.Common.{List, length, take, subst, arith}
use Rattle.std.specs.List.{concat}
use Rattle.lent.specs.Granted.{cut_of}
use Rattle.lent.specs.Spans.{spans_of}
use Rattle.session.specs.LentFrom.{pieces_of, lists_of}
use Rattle.session.specs.Runs.{AreRunsFrom}
use Rattle.session.proofs.Running.{one_more, finished, whole_is}
use Rattle.session.proofs.lending.Lending.lend_runs.Goals as goal

pub loop-count-preserved : goal.loop-count-preserved
loop-count-preserved c =
    let g = c.self.inside.grant in
    let l = c.loop-count in
    let rebuilt = lists_of c.self.inside.rebuilt.items in
    let s = c.self.invariant.1 in
    one_more g s.0 s.1 (concat (pieces_of (spans_of g.sealed.value (cut_of g)) rebuilt)) c.args.from l.from l.count c.args.target.now l.target _ s.2 (whole_is g rebuilt c.self.invariant.0 s.0 s.1 s.2).0
    l.invariant c.loop-count-test.true c.run_at-bytes.ensures.run

pub returns-else-from-self-clause-runs : goal.returns-else-from-self-clause-runs
returns-else-from-self-clause-runs c =
    let g = c.self.inside.grant in
    let l = c.loop-count in
    let rebuilt = lists_of c.self.inside.rebuilt.items in
    let s = c.self.invariant.1 in
    let pieces = pieces_of (spans_of g.sealed.value (cut_of g)) rebuilt in
    let size = (whole_is g rebuilt c.self.invariant.0 s.0 s.1 s.2).1 in
    subst (λ (lent : List _). AreRunsFrom lent c.args.from (length c.args.target.now) (take l.count l.target)) c.self.view_is
    (finished pieces c.args.from l.from l.count c.args.target.now l.target l.invariant (λ room. omega (arith, size, c.if-from-self.false)))
