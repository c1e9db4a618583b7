use Rattle.std.proofs.Common.{◌≡◌, ◌≤◌, ◌+◌, ◌++◌, vec_len, length}
use Rattle.std.specs.Prelude.{vec_capacity}
use Rattle.std.specs.Vec.Iter.{into_iter_items, into_iter_len}
use Rattle.rounds.specs.Pools.{passes_back, outcomes_of}
use Rattle.rounds.proofs.pool.unzip.Given as goal

abbrev pub invariant-loop-ran : goal.invariant-loop-ran
invariant-loop-ran g l =
    (vec_len l.passes ≡ length l.yielded) × (vec_len l.outcomes ≡ length l.yielded)
    × (length l.yielded + into_iter_len l.ran-iterator ≤ vec_capacity l.passes) × (length l.yielded + into_iter_len l.ran-iterator ≤ vec_capacity l.outcomes)
    × (l.passes.items ≡ passes_back l.yielded) × (l.outcomes.items ≡ outcomes_of l.yielded) × (l.fn.rans.items ≡ l.yielded ++ into_iter_items l.ran-iterator)
