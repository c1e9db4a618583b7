use Rattle.std.proofs.Common.{◌≡◌, ℕ, ◌<◌, List, length, get_or, bit_xor, ap, ◌∙◌, arith, w8, Fits}
use Rattle.std.proofs.lemmas.Simd.{Each1-get_or, below_from_Fits}
use lib.Lanes.{Each1}
use Rattle.gf256.specs.Field.{product}
use Rattle.kernels.proofs.GroupLemmas.{fourth_by_products}
use Rattle.kernels.specs.declared.lanes.TheConstants.{LANES}
use Rattle.kernels.proofs.blocks.fourth_each.Goals as goal

byte : (x : List ℕ) (k : ℕ) → k < LANES → length x ≡ LANES → Each1 (Fits w8) x → get_or x k 0 < 256
byte x k h long fits = Each1-get_or (λ y. y < 256) x k 0 (omega (arith, long, h)) (below_from_Fits w8 x fits)

pub returns : goal.returns
returns c k h =
    let s0 : ℕ = get_or c.args.s0 k 0 in
    let s1 : ℕ = get_or c.args.s1 k 0 in
    let s2 : ℕ = get_or c.args.s2 k 0 in
    let t0 : ℕ = get_or c.args.t0 k 0 in
    let t1 : ℕ = get_or c.args.t1 k 0 in
    let t2 : ℕ = get_or c.args.t2 k 0 in
    c.plus_times.ensures k h ∙ ap (λ w. bit_xor (get_or c.plus_times-four.result k 0) (product w t2)) c.of_cd.ensures
    ∙ ap (λ x. bit_xor x (product 0xCD t2)) (c.plus_times-four.ensures k h ∙ ap (λ w. bit_xor (get_or c.plus_times-three.result k 0) (product w t1)) c.of_74.ensures
    ∙ ap (λ x. bit_xor x (product 0x74 t1)) (c.plus_times-three.ensures k h ∙ ap (λ w. bit_xor (get_or c.plus_times-two.result k 0) (product w t0)) c.of_1d.ensures
    ∙ ap (λ x. bit_xor x (product 0x1D t0)) (c.plus_times-two.ensures k h ∙ ap (λ w. bit_xor (get_or c.plus_times-one.result k 0) (product w s2)) c.of_10.ensures
    ∙ ap (λ x. bit_xor x (product 0x10 s2)) (c.plus_times-one.ensures k h ∙ ap (λ w. bit_xor s0 (product w s1)) c.of_04.ensures))))
    ∙ fourth_by_products s0 s1 s2 t0 t1 t2 (
      byte c.args.s0 k h c.fits-s0.0 c.fits-s0.1,
      (
        byte c.args.s1 k h c.fits-s1.0 c.fits-s1.1,
        (
          byte c.args.s2 k h c.fits-s2.0 c.fits-s2.1,
          (byte c.args.t0 k h c.fits-t0.0 c.fits-t0.1, (byte c.args.t1 k h c.fits-t1.0 c.fits-t1.1, (byte c.args.t2 k h c.fits-t2.0 c.fits-t2.1, (tt {0})))),
        ),
      ),
    )
