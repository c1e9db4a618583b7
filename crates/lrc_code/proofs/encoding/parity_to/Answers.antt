use Rattle.std.proofs.Common.{ℕ, length, take, ◌∙◌, arith, length-take-le, get_or-take}
use Rattle.lrc_code.proofs.Parities.{data_count-le, parity_by_weights}
use Rattle.lrc_code.proofs.encoding.parity_to.Goals as goal

pub returns : goal.returns
returns c k h =
    let n : ℕ = length c.args.sources.now in
    c.combine_lists.ensures k h
    ∙ parity_by_weights c.args.code c.args.equation (take n c.loop-i.weights) _
    (length-take-le n c.loop-i.weights (omega (arith, c.loop-i.invariant.0, c.requires.count, data_count-le c.args.code)) ∙ c.requires.count)
    (λ i l. get_or-take n c.loop-i.weights i 0 (omega (arith, l, c.requires.count)) ∙ c.loop-i.invariant.1 i (omega (arith, l, c.requires.count)))
