use Rattle.std.proofs.Common.{◌≡◌, ℕ, ◌∙◌, ◌++◌, List, [], ◌∷◌, length, map, take, subst, arith}
use Rattle.lrc_code.specs.Stripe.{IsStripe, list_at}
use Rattle.sealed.proofs.Whole.{made_parities, parities_written}
use Rattle.sealed.proofs.parities.write_parities.Goals as goal

pub returns : goal.returns
returns c =
    let new = c.encode_to.new in
    let w : ℕ = c.args.w in
    let first : length new.first ≡ w = omega (arith, c.encode_to.auto.first, c.split_at_mut-first.ensures.front_len) in
    let second : length new.second ≡ w = omega (arith, c.encode_to.auto.second, c.split_at_mut-second.ensures.front_len) in
    let third : length new.third ≡ w = omega (arith, c.encode_to.auto.third, c.split_at_mut-third.ensures.front_len) in
    let fourth : length new.fourth ≡ w =
    omega (arith, c.encode_to.auto.fourth, c.split_at_mut-third.ensures.back_len, c.split_at_mut-second.ensures.back_len, c.split_at_mut-first.ensures.back_len, c.requires.room) in
    let parities : List (List ℕ) = new.first ∷ new.second ∷ new.third ∷ new.fourth ∷ [] in
    parities_written c.args.code w c.args.held.now new.first new.second new.third new.fourth first second third fourth
    (made_parities c.args.code c.from-data.result w (c.from-data.ensures ∙ c.data_fragments.ensures) c.args.held.now c.requires.long c.data_slices-slices.result c.data_slices-slices.ensures.count
    c.data_slices-slices.ensures.slices parities (subst (λ n. IsStripe c.args.code n (list_at (map (λ s. s.now) (take c.from-data.result c.data_slices-slices.result) ++ parities))) first c.encode_to.ensures))
