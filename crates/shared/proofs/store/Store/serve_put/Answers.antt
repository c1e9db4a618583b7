use Rattle.std.proofs.Common.{Err, ap, sym, subst, ◌∙◌}
use Rattle.history.specs.Step.{Operation, put}
use Rattle.book.proofs.BlobBytes.{bytes_are}
use Rattle.shared.specs.Passes.{Which}
use Rattle.shared.specs.Calls.{Called}
use Rattle.shared.proofs.Requests.{refused_put}
use Rattle.shared.proofs.store.Store.serve_put.Goals as goal

pub make-requires-clause-can : goal.make-requires-clause-can
make-requires-clause-can g c = (c.in-Ok.ensures.shape.0 ∙ ap (λ (s : Which). s.width) (sym c.requires), (c.args.bytes, c.in-Ok.ensures.bytes))

pub returns-in-Ok-clause-called : goal.returns-in-Ok-clause-called
returns-in-Ok-clause-called g c =
    subst (λ (o : Operation). Called c.args.pass.now o c.make.result c.make.new.pass)
    (λ i. put c.args.name (c.in-Ok.ensures.shape.1 i) (bytes_are c.in-Ok.sealed c.args.bytes c.in-Ok.ensures.bytes i))
    c.make.ensures.called

pub returns-in-Err-clause-called : goal.returns-in-Err-clause-called
returns-in-Err-clause-called g c =
    subst (λ r. Called c.args.pass.now (put c.args.name c.args.code c.args.bytes) r c.args.pass.now) (sym c.refuse.ensures.refused)
    (refused_put c.args.pass.now c.args.name c.args.code c.args.bytes c.args.self.now.width c.in-Err.fault c.refuse.ensures.agrees (ap (λ (s : Which). s.width) (sym c.requires))
    c.in-Err.ensures.faults (λ long. c.seal.ensures.too_long.0 (c.in-Err.is ∙ ap Err long)))
