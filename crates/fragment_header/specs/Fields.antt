-- The fields of a header.
use Rattle.std.specs.Prelude.{◌≡◌, ℕ, List, length}
use Rattle.lrc_code.specs.declared.Code.{Code}
use Rattle.fragment_header.specs.declared.header.Header.{Header}

-- the arrays are as long as their types say
pub record HasArrays (h : Header) : Type 0 where
  pub set : length h.set ≡ 16
  pub digests : length h.digests ≡ 512

-- the header has these fields
pub record IsMadeOf (h : Header) (code : Code) (fragment width len : ℕ) (set digests : List ℕ) : Type 0 where
  pub code_is : h.code ≡ code
  pub fragment_is : h.fragment ≡ fragment
  pub width_is : h.width ≡ width
  pub len_is : h.len ≡ len
  pub set_is : h.set ≡ set
  pub digests_is : h.digests ≡ digests

-- two headers have the same fields
abbrev pub IsSame : Header → Header → Type 0
IsSame g h = IsMadeOf g h.code h.fragment h.width h.len h.set h.digests
