use Rattle.std.proofs.Common.{◌≡◌}
use Rattle.session.specs.LostBits.{lost_count}
use Rattle.session.proofs.version.Version.count_lost.Given as goal

abbrev pub invariant-loop-stripe : goal.invariant-loop-stripe
invariant-loop-stripe l = l.count ≡ lost_count l.self-inside.snapshot l.stripe
