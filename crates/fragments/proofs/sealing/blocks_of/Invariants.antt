use Rattle.std.proofs.Common.{◌≡◌, ◌+◌, ◌*◌, ◌<◌, ℕ, List, Bor, length, get_or}
use Rattle.std.specs.Prelude.{slice_range}
use Rattle.fragments.proofs.sealing.blocks_of.Given as goal

abbrev pub invariant-loop-f : goal.invariant-loop-f
invariant-loop-f l = record {
  twelve : length l.slices ≡ 12;
  made : (g : ℕ) (other : Bor (List ℕ)) → g < l.f → (get_or l.slices g other).now ≡ slice_range l.bytes (l.width * g) (l.width * g + l.width);
}
