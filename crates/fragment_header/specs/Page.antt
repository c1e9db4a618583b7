-- The bytes of a header's page.
use Rattle.std.specs.Prelude.{◌≡◌, ◌<◌, ◌≤◌, ◌%◌, ◌^◌, ℕ, List, [], ◌∷◌, ◌++◌, length, replicate}
use Rattle.std.specs.Int.{w32, w64, to_le_bytes}
use Rattle.sha2.specs.Sha256.{sha256}
use Rattle.lrc_code.specs.declared.Code.{Code}
use Rattle.lrc_code.specs.Code.{fragment_count, data_count}
use Rattle.fragment_header.specs.declared.header.Header.{Header}

-- not text, and broken by a change of line ends
abbrev pub magic : List ℕ
magic = 0x89 ∷ 0x4C ∷ 0x52 ∷ 0x43 ∷ 0x0D ∷ 0x0A ∷ 0x1A ∷ 0x0A ∷ []

-- version 1, which readers of version 1 read; the code, the number of the fragment, SHA-256, and no flags
abbrev pub kind_of : Header → List ℕ
kind_of h = 1 ∷ 0 ∷ 1 ∷ 0 ∷ data_count h.code ∷ h.fragment ∷ 1 ∷ 0 ∷ []

-- the fields, one after the other
abbrev pub fields_bytes : Header → List ℕ
fields_bytes h = magic ++ (kind_of h ++ (to_le_bytes w32 h.width ++ ((32 ∷ 0 ∷ 0 ∷ 0 ∷ []) ++ (to_le_bytes w64 h.len ++ (h.set ++ h.digests)))))

unfoldable pub padding : List ℕ
padding = replicate 3504 0

-- what the digest at the page's end is of
abbrev pub signed_bytes : Header → List ℕ
signed_bytes h = fields_bytes h ++ padding

unfoldable pub page_of : Header → List ℕ
page_of h = signed_bytes h ++ sha256 (signed_bytes h)
