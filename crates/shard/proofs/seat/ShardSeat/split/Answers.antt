use Rattle.std.proofs.Common.{ap, sym, subst, ◌∙◌}
use Rattle.shared.proofs.Passes.{pass_again}
use Rattle.shard.specs.Seats.{books_in, plain, IsKeptChain}
use Rattle.shard.proofs.seat.ShardSeat.split.Goals as goal

pub invariant_of-self-2 : goal.invariant_of-self-2
invariant_of-self-2 c =
    let e = c.in-Ok.ensures.ok in
    record {
      pass = pass_again (plain c.self.inside.seat) (plain c.split.new.self) c.self.invariant.pass (ap (λ p. books_in p.list) e) (ap (λ p. p.own) e) (ap (λ p. p.inside) e ∙ c.self.invariant.pass.outside);
      kept = subst IsKeptChain (sym (ap (λ p. p.list) e)) c.self.invariant.kept;
    }
