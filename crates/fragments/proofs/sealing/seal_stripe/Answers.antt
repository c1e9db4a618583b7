use Rattle.std.proofs.Common.{◌≡◌, ℕ, ◌∙◌, ◌++◌, List, [], ◌∷◌, length, map, take, subst, arith}
use Rattle.lrc_code.specs.Stripe.{IsStripe, list_at}
use Rattle.fragments.proofs.Pieces.{pieces_are}
use Rattle.fragments.proofs.sealing.seal_stripe.Goals as goal

pub returns : goal.returns
returns c =
    let new = c.encode_to.new in
    let w : ℕ = c.args.width in
    let first : length new.first ≡ w = omega (arith, c.encode_to.auto.first, c.split_at_mut-first.ensures.front_len) in
    let second : length new.second ≡ w = omega (arith, c.encode_to.auto.second, c.split_at_mut-second.ensures.front_len) in
    let third : length new.third ≡ w = omega (arith, c.encode_to.auto.third, c.split_at_mut-third.ensures.front_len) in
    let fourth : length new.fourth ≡ w =
    omega (arith, c.encode_to.auto.fourth, c.split_at_mut-third.ensures.back_len, c.split_at_mut-second.ensures.back_len, c.split_at_mut-first.ensures.back_len, c.requires.room) in
    let parities : List (List ℕ) = new.first ∷ new.second ∷ new.third ∷ new.fourth ∷ [] in
    pieces_are c.args.code c.from-count.result w (c.from-count.ensures ∙ c.data_fragments.ensures) c.args.bytes.now
    c.blocks_of-slices.result c.blocks_of-slices.ensures.count c.blocks_of-slices.ensures.slices new.first new.second new.third new.fourth first second third fourth
    (subst (λ n. IsStripe c.args.code n (list_at (map (λ s. s.now) (take c.from-count.result c.blocks_of-slices.result) ++ parities))) first c.encode_to.ensures)
