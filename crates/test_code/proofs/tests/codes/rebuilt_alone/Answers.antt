use Rattle.std.proofs.Common.{sym, ◌∙◌, arith}
use Rattle.lrc_code.specs.Code.{is_lost}
use Rattle.lrc_code.specs.Stripe.{is_absent}
use Rattle.lrc_code.proofs.Stripes.{alone_same}
use Rattle.test_code.proofs.tests.codes.rebuilt_alone.Goals as goal

pub rebuild_local-requires-clause-alone : goal.rebuild_local-requires-clause-alone
rebuild_local-requires-clause-alone g c =
    alone_same c.args.left.now.code (is_absent c.args.left.now.fragments) (is_lost c.lost.result) c.args.f (omega arith) (λ i l. sym (c.lost.ensures.absent i l))
    ∙ sym c.is_alone_in.ensures ∙ c.if-is_alone_in.true
