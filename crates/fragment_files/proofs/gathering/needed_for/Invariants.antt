use Rattle.std.proofs.Common.{◌≡◌, ◌<◌, ℕ, true, false, length}
use Rattle.lrc_code.specs.Code.{is_lost, Open}
use Rattle.fragment_files.specs.Needed.{is_marked, HasRecipe, IsNeededFor}
use Rattle.fragment_files.proofs.gathering.needed_for.Given as goal

abbrev pub invariant-loop-f : goal.invariant-loop-f
invariant-loop-f l = record {
  count : length l.needed ≡ 16;
  closed : (f : ℕ) → f < l.f → is_marked l.wanted f ≡ true → is_lost l.lost f ≡ true → Open l.code (is_lost l.lost) f → ⊥;
  remaining : (f : ℕ) → f < l.f → is_marked l.wanted f ≡ true → is_lost l.lost f ≡ false → is_marked l.needed f ≡ true;
  recipes : (f : ℕ) → f < l.f → is_marked l.wanted f ≡ true → is_lost l.lost f ≡ true → HasRecipe l.code (is_lost l.lost) f l.needed;
  no_more : (i : ℕ) → is_marked l.needed i ≡ true → (f : ℕ) × (f < l.f) × (is_marked l.wanted f ≡ true) × IsNeededFor l.code (is_lost l.lost) f i;
}
