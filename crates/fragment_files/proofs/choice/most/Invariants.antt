use Rattle.std.proofs.Common.{◌≡◌}
use Rattle.std.specs.Prelude.{IfSome}
use Rattle.fragment_files.proofs.choice.most.Given as goal

abbrev pub invariant-loop-source : goal.invariant-loop-source
invariant-loop-source l = IfSome l.fn.id (λ i. IfSome l.best (λ best. best.header.set ≡ i))
