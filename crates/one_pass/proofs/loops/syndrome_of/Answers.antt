use Rattle.std.proofs.Common.{◌≡◌, ℕ, ◌<◌, List, [], ◌∷◌, length, get_or, Fits, w8, sym, arith, ap, ◌∙◌}
use Rattle.std.proofs.lemmas.Simd.{Each1-get_or, below_from_Fits}
use lib.Lanes.{Each1}
use Rattle.kernels.specs.Lists.{combined, bytes_at}
use Rattle.one_pass.specs.Weights.{unit}
use Rattle.one_pass.proofs.Units.{unit_combined}
use Rattle.kernels.specs.declared.lanes.TheConstants.{LANES}
use Rattle.one_pass.proofs.loops.syndrome_of.Goals.{in-0, in-1, in-2, in_default}
use Rattle.one_pass.proofs.loops.syndrome_of.Goals as goal

byte : (x : List ℕ) (k : ℕ) → k < LANES → length x ≡ LANES → Each1 (Fits w8) x → get_or x k 0 < 256
byte x k h long fits = Each1-get_or (λ y. y < 256) x k 0 (omega (arith, long, h)) (below_from_Fits w8 x fits)

pub returns : goal.returns
returns c k h =
    let s : ℕ → ℕ = bytes_at (c.args.first ∷ c.args.second ∷ c.args.third ∷ c.args.fourth ∷ []) k in
    let at = λ (e : ℕ). combined (unit e) s in
    elim c.match-e.branch [
      | in-0 w ↦ ap (λ xs. get_or xs k 0) w.result-is ∙ sym (ap at w.in-0.is ∙ unit_combined s 0 (omega arith) (byte c.args.first k h c.fits-first.0 c.fits-first.1))
      | in-1 w ↦ ap (λ xs. get_or xs k 0) w.result-is ∙ sym (ap at w.in-1.is ∙ unit_combined s 1 (omega arith) (byte c.args.second k h c.fits-second.0 c.fits-second.1))
      | in-2 w ↦ ap (λ xs. get_or xs k 0) w.result-is ∙ sym (ap at w.in-2.is ∙ unit_combined s 2 (omega arith) (byte c.args.third k h c.fits-third.0 c.fits-third.1))
      | in_default w ↦
          let three : c.args.e ≡ 3 = omega arith in
          ap (λ xs. get_or xs k 0) w.result-is ∙ sym (ap at three ∙ unit_combined s 3 (omega arith) (byte c.args.fourth k h c.fits-fourth.0 c.fits-fourth.1))
    ]
