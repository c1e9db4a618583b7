use Rattle.std.proofs.Common.{◌≡◌, refl, ap, sym, subst, ◌∙◌, IfSome}
use Rattle.ledger.specs.Acts.{acts_at}
use Rattle.ledger.proofs.Values.{taken_last}
use Rattle.ledger.proofs.ledger.Ledger.take_value.Goals as goal

pub observe-requires : goal.observe-requires
observe-requires g c =
    let last = c.take-value.ensures.last in
    let taken = taken_last g.T.Changes.between c.args.self.now.table c.requires.keeps.0 c.args.seat.list last.0 c.take-value.result c.args.seat.own c.requires.keeps.1 last.1 c.requires.within last.2 last.3 in
    record { ledger = (c.requires.ledger, ap (λ q. q.ledger) taken.1) }

pub returns-clause-last : goal.returns-clause-last
returns-clause-last g c =
    let last = c.take-value.ensures.last in
    let taken = taken_last g.T.Changes.between c.args.self.now.table c.requires.keeps.0 c.args.seat.list last.0 c.take-value.result c.args.seat.own c.requires.keeps.1 last.1 c.requires.within last.2 last.3 in
    subst (λ o. IfSome o (λ x. x.value ≡ c.take-value.result.value)) (sym taken.0) refl

pub returns-clause-own : goal.returns-clause-own
returns-clause-own g c =
    let last = c.take-value.ensures.last in
    (taken_last g.T.Changes.between c.args.self.now.table c.requires.keeps.0 c.args.seat.list last.0 c.take-value.result c.args.seat.own c.requires.keeps.1 last.1 c.requires.within last.2 last.3).2

pub returns-clause-acts : goal.returns-clause-acts
returns-clause-acts g c k keeps =
    let last = c.take-value.ensures.last in
    let taken = taken_last g.T.Changes.between c.args.self.now.table k c.args.seat.list last.0 c.take-value.result c.args.seat.own keeps last.1 c.requires.within last.2 last.3 in
    ap (λ n. acts_at n c.observe.new.self.list) (sym (ap (λ q. q.shard) taken.1)) ∙ c.observe.ensures.acts ∙ ap (λ q. q.acts) taken.1
