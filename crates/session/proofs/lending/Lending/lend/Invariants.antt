use Rattle.lent.specs.Granted.{cut_of}
use Rattle.lent.specs.Spans.{spans_of}
use Rattle.session.specs.LentFrom.{pieces_of, lists_of}
use Rattle.session.proofs.Lendings.{IsLending}
use Rattle.session.proofs.lending.Lending.lend.Given as goal

abbrev pub invariant-loop-at : goal.invariant-loop-at
invariant-loop-at l =
    let g = l.self-inside.grant in let rebuilt = lists_of l.self-inside.rebuilt.items in
    IsLending (pieces_of (spans_of g.sealed.value (cut_of g)) rebuilt) rebuilt l.spans l.at l.initial.target l.target
