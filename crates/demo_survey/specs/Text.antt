-- A row as text, its numbers in columns.
use Rattle.std.specs.Prelude.{ℕ, ◌-◌, ◌/◌, ◌%◌, ◌^◌, List, ◌++◌, Option, None, Some, codes}
use Rattle.std.specs.Fmt.{styled_decimal, format_spec}
use Rattle.demo_survey.specs.declared.Row.{Row}

-- a number in so many places or more, filled with spaces in front
abbrev pub right : ℕ → ℕ → List ℕ
right width n = styled_decimal (format_spec 32 3 0 width (2 ^ 64 - 1)) n

-- the last three digits of a number of thousandths
abbrev pub thousandth_digits : ℕ → List ℕ
thousandth_digits n = styled_decimal (format_spec 32 0 4 3 (2 ^ 64 - 1)) n

-- a number of thousandths as a decimal, or a dash where there is none
abbrev pub thousandths_text : Option ℕ → List ℕ
thousandths_text None = codes "      -"
thousandths_text (Some n) = right 3 (n / 1000) ++ (codes "." ++ thousandth_digits (n % 1000))

-- how many are lost, in how many sets, how many of these can be rebuilt whole, their share in percent, how many fragments are read for one on average and at
-- most, and how many sets Reed-Solomon rebuilds
abbrev pub table_row : Row → List ℕ
table_row row = right 4 row.size ++ (codes " " ++ (right 6 row.sets ++ (codes " " ++ (right 6 row.whole ++ (codes " " ++ (thousandths_text row.share ++ (codes " "
    ++ (thousandths_text row.mean ++ (codes " " ++ (right 5 row.reads.most ++ (codes " " ++ right 9 row.whole_by_any_four)))))))))))
