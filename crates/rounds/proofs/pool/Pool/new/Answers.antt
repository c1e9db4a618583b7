use Rattle.std.proofs.Common.{◌≡◌, ℕ, ◌+◌, ◌<◌, List, [], length, sym, subst, arith}
use Rattle.std.proofs.lemmas.Grind.{common_steps}
use Rattle.gate.specs.Places.{times}
use Rattle.book.specs.Serial.{Act}
use Rattle.rounds.specs.Pools.{AreNew}
use Rattle.rounds.proofs.Pooling.{workers-more}
use Rattle.rounds.proofs.Pooling.{new-more}
use Rattle.rounds.proofs.pool.Pool.new.Goals as goal

pub loop-worker-preserved : goal.loop-worker-preserved
loop-worker-preserved c =
    let inv = c.loop-worker.invariant in
    let pass = c.in-Ok.pass in
    let label : pass.who ≡ 1 + length c.loop-worker.passes.items = grind (arith, common_steps) in
    let seen : pass.acts ≡ c.args.first.acts = grind (arith, common_steps) in
    let none : pass.did ≡ [] = grind (arith, common_steps) in
    record {
      store = grind (arith, common_steps);
      workers = rw c.push_reserved.ensures.items (workers-more c.args.store.now c.loop-worker.passes.items pass inv.workers (grind (arith, common_steps)) (grind (arith, common_steps)));
      rooms = grind (arith, common_steps);
      many = grind (arith, common_steps);
      capacity = grind (arith, common_steps);
      kept = grind (arith, common_steps);
      new = rw c.push_reserved.ensures.items (new-more c.args.first.acts 1 c.loop-worker.passes.items pass inv.new label seen none);
    }

pub returns-clause-fresh : goal.returns-clause-fresh
returns-clause-fresh c =
    let inv = c.loop-worker.invariant in
    record {
      pool_is = record { first = inv.store; workers = inv.workers; some = grind (arith, common_steps); rooms = inv.rooms };
      new = subst (λ (acts : List Act). AreNew acts 1 c.loop-worker.passes.items) (sym inv.kept.0) inv.new;
      own = subst (λ (u : List Act × List ℕ). (k : ℕ) → k < length u.0 → times k u.1 ≡ 1) (λ i. (sym inv.kept.0 i, sym inv.kept.1 i)) c.requires.own;
    }
