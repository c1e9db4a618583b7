use Rattle.std.proofs.Common.{◌≡◌, ℕ, ◌*◌, ◌<◌, length}
use Rattle.sealed.specs.Layout.{stripe_size}
use Rattle.sealed.specs.Packed.{held_by, parities_by, AreParitiesOf}
use Rattle.sealed.proofs.parities.all_parities.Given as goal

abbrev pub invariant-loop-j : goal.invariant-loop-j
invariant-loop-j l = record {
  long : length l.parities.items ≡ 4 * l.w * l.j;
  written : (i : ℕ) → i < l.j → AreParitiesOf l.code l.w (held_by (stripe_size l.code l.w) l.blob l.last i) (parities_by l.w l.parities.items i);
}
