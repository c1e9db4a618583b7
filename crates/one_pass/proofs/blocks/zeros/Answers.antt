use Rattle.std.proofs.Common.{ℕ, ◌<◌, length, take, replicate, ◌∙◌, arith, length-take-le, get_or-take}
use Rattle.std.proofs.lemmas.Simd.{get_or-replicate}
use Rattle.std.proofs.lemmas.List.{length-replicate}
use Rattle.one_pass.proofs.blocks.zeros.Goals as goal

pub returns-clause-zeros : goal.returns-clause-zeros
returns-clause-zeros c i l =
    let inside : i < length (take c.args.count (replicate {A = ℕ} 4096 0)) = l in
    let below : i < c.args.count = omega (arith, c.requires, length-take-le c.args.count (replicate {A = ℕ} 4096 0) (omega (arith, c.requires, length-replicate {A = ℕ} 4096 0))) in
    get_or-take c.args.count (replicate {A = ℕ} 4096 0) i 0 below ∙ get_or-replicate 4096 i 0 0 (omega (arith, c.requires))
