use Rattle.std.proofs.Common.{◌≡◌, ◌++◌, ◌∙◌, map, sym, ap, subst, append-nil}
use Rattle.rounds.specs.Rounds.{DidAt, EachRan, work_of}
use Rattle.rounds.proofs.Joining.{each_did}
use Rattle.rounds.proofs.round.fn.run_round.scope.Goals as goal

pub returns-then-is_short : goal.returns-then-is_short
returns-then-is_short g c =
    let started = map work_of c.start_all-started.result.started.items in
    record { did = tt; back = (started, sym c.start_all-started.ensures.works, (each_did g.E.Errand.did g.E.Errand.paced (g.P.Pace.may_answer c.captures.pace.now) started c.join_all-rans.result.items c.join_all-rans.ensures).0) }

pub returns : goal.returns
returns g c =
    let started = map work_of c.start_all-started.result.started.items in
    let all : started ≡ c.captures.works.items =
    sym (append-nil started) ∙ ap (λ l. started ++ l) (sym (c.start_all-started.ensures.all c.if-is_short.false)) ∙ c.start_all-started.ensures.works in
    record {
      did = subst (λ works. EachRan (DidAt g.E.Errand.did g.E.Errand.paced (g.P.Pace.may_answer c.captures.pace.now)) works c.join_all-rans.result.items) all c.join_all-rans.ensures;
      back = tt;
    }
