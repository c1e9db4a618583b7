use Rattle.book.proofs.Carrying.{tells_none}
use Rattle.book.proofs.book.Book.with_limit.Goals as goal

pub returns-clause-holds : goal.returns-clause-holds
returns-clause-holds c = tells_none _ c.empty.ensures c.in_ok-new.ensures.entries c.new-2.ensures
