-- Shares of the syndromes once the group of a fragment is complete.
use Rattle.std.specs.Prelude.{ℕ, ◌==◌, List, [], ◌∷◌, slice_index, if◌then◌else◌}
use Rattle.lrc_code.specs.declared.Code.TheVariants.{Wide}
use Rattle.lrc_code.specs.Code.{weight}

-- the shares, of which the one of the syndrome of a fragment's group is 0
abbrev pub less_group : List ℕ → ℕ → List ℕ
less_group shares f =
    if weight Wide 0 f == 1 then 0 ∷ slice_index shares 1 ∷ slice_index shares 2 ∷ slice_index shares 3 ∷ []
    else if weight Wide 1 f == 1 then slice_index shares 0 ∷ 0 ∷ slice_index shares 2 ∷ slice_index shares 3 ∷ []
    else shares
