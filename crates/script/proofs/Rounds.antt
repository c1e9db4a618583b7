-- The rounds of earlier rows.
use Rattle.std.proofs.Common.{◌≡◌, ◌<◌, ℕ, zero, suc, List, [], ◌∷◌, Some, map, false, ap, arith, nat_eq, get_or}
use Rattle.std.specs.Prelude.{slice_get, slice_index_or}
use Rattle.std.specs.List.{list_any}
use Rattle.std.proofs.lemmas.Bool.Decides.{nat_tests}
use Rattle.std.proofs.lemmas.List.Folds.{list_any_none}
use Rattle.script.specs.declared.rows.Row.{Row}
use Rattle.script.specs.Script.{IsTidy, is_in_round, last_round}

-- the round of the row at a place
pub round-at : (rows : List Row) (k : ℕ) (row : Row) → slice_get rows k ≡ Some row → slice_index_or (map (λ r. r.round) rows) k 0 ≡ row.round
round-at [] k row at = absurd (cc at)
round-at (first ∷ rows) zero row at = let same : first ≡ row = cc at in ap (λ r. r.round) same
round-at (first ∷ rows) (suc k) row at = round-at rows k row at

-- a row of another round is not in this one
other : (a b : ℕ) → a < b → nat_eq a b ≡ false
other a b h = grind (arith, nat_tests)

-- no earlier row is in a later round
pub none-later : (earlier : List Row) (round : ℕ) → IsTidy earlier → last_round earlier < round → list_any (is_in_round round) earlier ≡ false
none-later earlier round t h =
    list_any_none (is_in_round round) earlier (λ k d l. let le = t.rises k d l in other (get_or earlier k d).round round (omega arith))
