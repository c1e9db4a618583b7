-- The state of the sequential specification: a map from names to bytes with lost fragments.
use Rattle.std.specs.Prelude.{◌≡◌, ℕ, ◌<◌, true, List, length}
use Rattle.std.specs.FinMap as map
use Rattle.lrc_code.specs.declared.Code.{Code}
use Rattle.lrc_code.specs.Code.{fragment_count}
use Rattle.sealed.specs.Layout.{stripe_count}
use Rattle.sealed.specs.Blob.{Lost, lost_in}
use Rattle.history.specs.Names.{name_cmp}

-- what a name has: the number of its put, its bytes and their code, and its lost fragments
pub record Blob : Type 0 where
  pub version : ℕ
  pub bytes : List ℕ
  pub code : Code
  pub lost : Lost

pub record State : Type 0 where
  pub names : map.FinMap name_cmp Blob
  pub puts : ℕ

-- no name, and no put so far
abbrev pub empty_state : State
empty_state = record { names = map.empty; puts = 0 }

-- each lost pair is a fragment of a stripe of the blob
abbrev pub IsLostInside : ℕ → Blob → Type 0
IsLostInside w blob =
    (j f : ℕ) → lost_in blob.lost j f ≡ true → (j < stripe_count blob.code w (length blob.bytes)) × (f < fragment_count blob.code)
