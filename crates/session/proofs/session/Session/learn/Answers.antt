use Rattle.std.proofs.Common.{subst}
use Rattle.shared.specs.Passes.{Shows, ReceiptShows, DoneAfter}
use Rattle.session.proofs.session.Session.learn.Goals as goal

pub returns-clause-later : goal.returns-clause-later
returns-clause-later c deed w takes =
    let u = c.accept.new.self in
    subst (λ (x : Shows). DoneAfter x.acts u w) c.other.view_is
    (subst (λ (r : ReceiptShows). DoneAfter r.acts u w) c.receipt-receipt.ensures.given (c.accept.ensures.later deed w takes))
