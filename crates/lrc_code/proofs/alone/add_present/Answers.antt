use Rattle.std.proofs.Common.{◌+◌, ◌∙◌, arith}
use Rattle.lrc_code.specs.declared.alone.TheConstants.{ONES}
use Rattle.lrc_code.specs.Stripe.{byte_at}
use Rattle.lrc_code.proofs.CombineLemmas.{ones_sum}
use Rattle.lrc_code.proofs.Others.{one_at}
use Rattle.lrc_code.proofs.alone.add_present.Goals as goal

pub returns : goal.returns
returns c k h =
    c.combine_lists.ensures k h
    ∙ ones_sum c.args.others.now (byte_at c.args.left.now.fragments (c.args.from + k)) ONES c.loop-i.parts k (omega arith) (omega (arith, c.loop-i.invariant.count))
    (λ i l. one_at i (omega arith)) (λ i l. c.loop-i.invariant.bytes i k (omega arith) (omega (arith, c.requires.long, c.combine_lists.auto.target)))
