use Rattle.std.proofs.Common.{map, arith}
use Rattle.lrc_code.proofs.Parities.{stripe_same, written_back}
use Rattle.lrc_code.proofs.encoding.encode_in.Goals as goal

pub returns : goal.returns
returns c =
    let new = c.encode_to.new in
    stripe_same c.args.code (map (λ s. s.now) c.args.sources.now) new.first new.second new.third new.fourth _ _ _ _ _ c.args.w
    (written_back c.in_ok-first.first.len new.first _ (omega (arith, c.in_ok-first.ensures.len))) (written_back c.in_ok-second.second.len new.second _ (omega (arith, c.in_ok-second.ensures.len)))
    (written_back c.in_ok-third.third.len new.third _ (omega (arith, c.in_ok-third.ensures.len))) (written_back c.in_ok-fourth.fourth.len new.fourth _ (omega (arith, c.in_ok-fourth.ensures.len)))
    (omega (arith, c.in_ok-first.ensures.len)) c.encode_to.ensures
