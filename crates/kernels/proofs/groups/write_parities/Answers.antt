use Rattle.std.proofs.Common.{◌≡◌, List, ℕ, Bor, map, length, [], ◌∷◌, subst, sym}
use Rattle.std.specs.List.{All}
use Rattle.kernels.specs.Parities.{AreParitiesOfTwelve}
use Rattle.kernels.proofs.GroupLemmas.{twelve_of}
use Rattle.kernels.proofs.groups.write_parities.Goals as goal

pub encode_lists-requires-clause-same : goal.encode_lists-requires-clause-same
encode_lists-requires-clause-same c = subst (All (λ s. length s.now ≡ length c.args.first.now)) (sym (twelve_of c.args.sources.now c.requires.count)) c.requires.same

pub returns : goal.returns
returns c k h =
    let new = c.encode_lists.new in
    subst (λ (sources : List (Bor (List ℕ))). AreParitiesOfTwelve (map (λ s. s.now) sources) (new.first ∷ new.second ∷ new.third ∷ new.fourth ∷ []) k)
    (twelve_of c.args.sources.now c.requires.count) (c.encode_lists.ensures k h)
