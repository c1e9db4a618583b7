use Rattle.ledger.proofs.Listing.{keeper_ledger, listed}
use Rattle.ledger.proofs.Values.{keeps_longer}
use Rattle.ledger.proofs.ledger.Ledger.make_visit.Goals as goal

pub leave-requires-clause-ledger : goal.leave-requires-clause-ledger
leave-requires-clause-ledger g c =
    let e = c.enter-inside.ensures in
    (c.requires.ledger, keeper_ledger g.T.Changes.between g.T.Follows.follows (g.V.Visit.does c.args.work) c.args.self.now.table c.enter-inside.new.seat.list c.enter-inside.result.value (c.requires.keeps.0, keeps_longer _ g.T.Follows.follows _ c.requires.keeps.0 _ _ _ c.requires.keeps.1 e.seen.0 e.seen.1 e.found) e.found)

pub returns-clause-visited : goal.returns-clause-visited
returns-clause-visited g c =
    let e = c.enter-inside.ensures in
    let l = c.leave.ensures in
    listed g.T.Changes.between g.T.Follows.follows (g.V.Visit.does c.args.work) c.args.self.now.table
    c.args.seat.now c.enter-inside.new.seat c.leave.new.seat c.args.follower.now c.leave.new.follower c.enter-inside.result.value c.visit-reply.new.value c.visit-reply.result
    (e.unchanged.0, e.unchanged.1, e.unchanged.2) e.seen e.found e.lone c.visit-reply.ensures.does l.unchanged l.list l.own (λ k had. l.keeps k (keeps_longer _ g.T.Follows.follows _ k _ _ _ had e.seen.0 e.seen.1 e.found)) l.recorded l.follower
