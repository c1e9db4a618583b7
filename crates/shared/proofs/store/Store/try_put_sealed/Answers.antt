use Rattle.std.proofs.Common.{subst}
use Rattle.history.specs.Step.{Operation, put}
use Rattle.shared.specs.Calls.{Called}
use Rattle.book.proofs.BlobBytes.{bytes_are}
use Rattle.shared.proofs.store.Store.try_put_sealed.Goals as goal

pub returns-in-Ok-clause-called : goal.returns-in-Ok-clause-called
returns-in-Ok-clause-called c = λ b stands.
    subst (λ (o : Operation). Called c.args.pass.now o c.in-Ok.reply c.try_prepared.new.pass)
    (λ i. put c.args.name c.args.sealed.code (bytes_are c.args.sealed b stands i))
    c.in-Ok.ensures.called
