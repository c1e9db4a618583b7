-- A report as text.
use Rattle.std.specs.Prelude.{ℕ, List, ◌++◌, codes, decimal}
use Rattle.mender.specs.declared.report.Report.{Report}

-- the word and the four numbers
abbrev pub report_line : Report → List ℕ
report_line r = codes "mended " ++ (decimal r.repaired ++ (codes " " ++ (decimal r.not_lost ++ (codes " " ++ (decimal r.gone ++ (codes " " ++ decimal r.unrecoverable))))))
