use Rattle.std.proofs.Common.{◌≡◌, All}
use Rattle.test_shared.proofs.tests.stores.passes.split_some.Given as goal

abbrev pub invariant-loop-k : goal.invariant-loop-k
invariant-loop-k g l = (l.first.store ≡ l.store) × All (λ pass. pass.store ≡ l.store) l.passes.items
