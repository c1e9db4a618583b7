use Rattle.std.proofs.Common.{◌≡◌, ◌≤◌, ◌+◌, length, vec_len}
use Rattle.std.specs.Prelude.{vec_capacity}
use Rattle.rounds.specs.Pools.{AreWorkers, AreNew}
use Rattle.rounds.proofs.pool.Pool.new.Given as goal

abbrev pub invariant-loop-worker : goal.invariant-loop-worker
invariant-loop-worker l = record {
  store : l.first.store ≡ l.store;
  workers : AreWorkers l.store l.passes.items;
  rooms : l.first.room + length l.passes.items ≡ 64;
  many : vec_len l.passes ≡ l.worker;
  capacity : l.workers ≤ vec_capacity l.passes;
  kept : (l.first.acts ≡ l.fn.first.acts) × (l.first.did ≡ l.fn.first.did);
  new : AreNew l.fn.first.acts 1 l.passes.items;
}
