use Rattle.std.proofs.Common.{◌≡◌, ◌+◌, ◌*◌, ◌<◌, ℕ, List, Bor, length, get_or}
use Rattle.std.specs.Prelude.{slice_range}
use Rattle.sealed.proofs.parities.data_slices.Given as goal

abbrev pub invariant-loop-f : goal.invariant-loop-f
invariant-loop-f l = record {
  twelve : length l.slices ≡ 12;
  made : (g : ℕ) (other : Bor (List ℕ)) → g < l.f → (get_or l.slices g other).now ≡ slice_range l.held (l.w * g) (l.w * g + l.w);
}
