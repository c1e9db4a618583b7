use Rattle.std.proofs.Common.{◌≡◌, ◌↔◌, ◌<◌, ℕ, true, length}
use Rattle.fragment_files.specs.Needed.{is_marked}
use Rattle.lrc_files.proofs.lanes.all_below.Given as goal

abbrev pub invariant-loop-f : goal.invariant-loop-f
invariant-loop-f l = record {
  count : length l.below ≡ 16;
  marks : (i : ℕ) → (is_marked l.below i ≡ true) ↔ (i < l.f);
}
