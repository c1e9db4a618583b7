use Rattle.std.proofs.Common.{◌≡◌, List, ℕ, [], ◌∷◌, ◌++◌, length, map, sym, subst, arith}
use Rattle.lrc_code.specs.Stripe.{IsStripe, list_at}
use Rattle.lrc_code.proofs.Parities.{quarters_joined}
use Rattle.lrc_code.proofs.encoding.encode_quarters.Goals as goal

pub returns : goal.returns
returns c =
    let new = c.encode_to.new in
    let w : ℕ = c.args.w in
    let sources : List (List ℕ) = map (λ s. s.now) c.args.sources.now in
    let first : length new.first ≡ w = omega (arith, c.encode_to.auto.first, c.split_at_mut-first.ensures.front_len) in
    let second : length new.second ≡ w = omega (arith, c.encode_to.auto.second, c.split_at_mut-second.ensures.front_len) in
    let third : length new.third ≡ w = omega (arith, c.encode_to.auto.third, c.split_at_mut-third.ensures.front_len) in
    let fourth : length new.fourth ≡ w =
    omega (arith, c.encode_to.auto.fourth, c.split_at_mut-third.ensures.back_len, c.split_at_mut-second.ensures.back_len, c.split_at_mut-first.ensures.back_len, c.requires.room) in
    subst (λ ps. IsStripe c.args.code w (list_at (sources ++ ps))) (sym (quarters_joined w new.first new.second new.third new.fourth first second third fourth))
    (subst (λ n. IsStripe c.args.code n (list_at (sources ++ new.first ∷ new.second ∷ new.third ∷ new.fourth ∷ []))) first c.encode_to.ensures)
