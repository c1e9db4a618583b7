use Rattle.session.specs.LentFrom.{lists_of}
use Rattle.session.proofs.Lendings.{lent_from}
use Rattle.session.proofs.lending.Lending.of_read.Goals as goal

pub invariant_of-result : goal.invariant_of-result
invariant_of-result c = (c.in_ok-rebuilt.ensures, c.requires.stands)

pub returns : goal.returns
returns c = lent_from c.args.grant (lists_of c.in_ok-rebuilt.rebuilt.items) c.in_ok-rebuilt.ensures
