-- The cut and the bytes of a granted range.
use Rattle.std.specs.Prelude.{ℕ, ◌+◌, List, slice_range}
use Rattle.lent.specs.declared.grant.Grant.{Grant}
use Rattle.lent.specs.declared.part.Part.{Part}
use Rattle.lent.specs.Cut.{cut}

-- the cut of its range
abbrev pub cut_of : Grant → List Part
cut_of g = cut g.sealed.value.code g.sealed.value.width g.start g.len

-- the bytes of the range, in a blob's bytes
abbrev pub range_of : Grant → List ℕ → List ℕ
range_of g b = slice_range b g.start (g.start + g.len)
