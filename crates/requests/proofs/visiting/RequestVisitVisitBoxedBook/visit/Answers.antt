use Rattle.std.proofs.Common.{sym, subst}
use Rattle.requests.specs.declared.request.Request.{Request}
use Rattle.requests.specs.Requests.{CanMake}
use Rattle.requests.specs.Visits.{IsRequestMade}
use Rattle.requests.proofs.Requests.{put_made}
use Rattle.requests.proofs.visiting.RequestVisitVisitBoxedBook.visit.Goals as goal

pub returns-in-Put : goal.returns-in-Put
returns-in-Put c =
    let book = c.args.value.now.0.value in
    let e = c.put.ensures in
    record {
      does = subst (λ (request : Request). IsRequestMade c.args.self.who request book c.put.new.self c.put.result) (sym c.in-Put.is)
          (put_made c.put.result _ book c.put.new.self c.args.self.who c.in-Put.alloc c.in-Put.name c.in-Put.sealed (cc) (subst (CanMake book) c.in-Put.is c.requires.can) e.ok e.full e.unchanged e.faults e.err);
    }
