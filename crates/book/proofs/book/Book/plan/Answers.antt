use Rattle.history.specs.History.{state_of}
use Rattle.book.specs.Plan.{plan_of}
use Rattle.book.specs.Holds.{HoldsHistory}
use Rattle.book.proofs.Parts.{whole_plan}
use Rattle.book.proofs.book.Book.plan.Goals as goal

pub returns : goal.returns
returns c = whole_plan c.plan_part.result (HoldsHistory c.args.self.now) (λ h. plan_of (state_of h)) c.plan_part.ensures
