-- What was compared, as text.
use Rattle.std.specs.Prelude.{ℕ, List, ◌++◌, codes, decimal}
use Rattle.test_vectors.specs.declared.stripes.Comparison.{Comparison}

-- how many stripes, how many fragments that were rebuilt, and how many that are open
abbrev pub comparison_text : Comparison → List ℕ
comparison_text c =
    decimal c.stripes ++ (codes " stripes, " ++ (decimal c.rebuilt ++ (codes " fragments rebuilt, " ++ (decimal c.open ++ codes " open"))))
