use Rattle.std.proofs.Common.{◌∷◌, []}
use Rattle.history.specs.History.{History}
use Rattle.book.specs.Known.{IsFragmentIn}
use Rattle.book.specs.Holds.{HoldsHistory}
use Rattle.test_blobs.proofs.tests.books.play.Given as goal

abbrev pub invariant-loop-step : goal.invariant-loop-step
invariant-loop-step g l = (h : History) × HoldsHistory l.book h × IsFragmentIn h l.book.width l.name 1 0 0 (65 ∷ [])
