use Rattle.std.proofs.Common.{List, ℕ, Bor, map, ap, ◌∙◌}
use Rattle.kernels.specs.Lists.{bytes_at, combined}
use Rattle.kernels.proofs.CombineLemmas.{six_of}
use Rattle.kernels.proofs.combine.sum_plainly.Goals as goal

pub returns-then-coefficients-eq6 : goal.returns-then-coefficients-eq6
returns-then-coefficients-eq6 c k h =
    c.plain_blocks.ensures k h
    ∙ ap (λ (lists : List (Bor (List ℕ))). combined c.args.coefficients.now (bytes_at (map (λ s. s.now) lists) k)) (six_of c.args.sources.now (c.requires.count ∙ c.if-coefficients-eq6.true))
