use Rattle.std.proofs.Common.{◌≡◌, ◌≤◌, [], ◌∷◌, ◌++◌, map, take, length, arith, sym, subst, ◌∙◌}
use Rattle.std.proofs.lemmas.List.{take-map, length-map}
use Rattle.lrc_code.specs.Stripe.{list_at, IsStripe}
use Rattle.lrc_code.specs.Code.{data_count}
use Rattle.coder_c.proofs.Weights.{weights, unit_long, at_most_twelve, firsts}
use Rattle.coder_c.proofs.weights_of.Goals as goal

pub encode_to-requires-clause-same : goal.encode_to-requires-clause-same
encode_to-requires-clause-same c = unit_long c.unit_data-data.result c.args.fragment c.from.result c.unit_data-data.ensures.count c.unit_data-data.ensures.at

pub returns : goal.returns
returns c =
    let units = c.unit_data-data.result in
    let new = c.encode_to.new in
    let sources = map (λ s. s.now) units in
    let parities = new.first ∷ new.second ∷ new.third ∷ new.fourth ∷ [] in
    let cut : c.from.result ≡ data_count c.args.code = c.from.ensures ∙ c.data_fragments.ensures in
    let few : data_count c.args.code ≤ 12 = at_most_twelve c.args.code in
    let is : IsStripe c.args.code (length new.first) (list_at (take (data_count c.args.code) sources ++ parities)) =
    subst (λ n. IsStripe c.args.code (length new.first) (list_at (take n sources ++ parities))) cut
    (subst (λ xs. IsStripe c.args.code (length new.first) (list_at (xs ++ parities))) (sym (take-map (λ s. s.now) c.from.result units)) c.encode_to.ensures) in
    let at = weights c.args.code sources parities c.args.fragment (length new.first) c.requires (omega arith) (omega (arith, length-map units (λ s. s.now), c.unit_data-data.ensures.count, few)) (λ i l. c.unit_data-data.ensures.at i (omega (arith, few))) is in
    λ e l. firsts new.first new.second new.third new.fourth e l ∙ at e l
