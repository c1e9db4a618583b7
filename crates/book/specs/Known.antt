-- What a caller knows of a fragment that was rebuilt outside the book.
use Rattle.std.specs.Prelude.{◌≡◌, ℕ, ◌<◌, List, length}
use Rattle.lrc_code.specs.declared.Code.{Code}
use Rattle.lrc_code.specs.Code.{fragment_count}
use Rattle.sealed.specs.declared.value.Sealed.{Sealed}
use Rattle.sealed.specs.Layout.{stripe_count}
use Rattle.sealed.specs.Blob.{fragment}
use Rattle.sealed.specs.Rebuilding.{IsFragmentOf, IsRebuildable}
use Rattle.history.specs.History.{History, HasPut}

-- the history's put of this version, under this name, has bytes whose fragment f of stripe j this is
pub record IsFragmentIn (h : History) (w : ℕ) (name : List ℕ) (version j f : ℕ) (found : List ℕ) : Type 0 where
  pub code : Code
  pub bytes : List ℕ
  pub put : HasPut h version name code bytes
  pub stripe : j < stripe_count code w (length bytes)
  pub number : f < fragment_count code
  pub is : found ≡ fragment code w bytes j f

-- the bytes have the length of a fragment of the value. If it has this version, they are the fragment
-- f of stripe j of these bytes
pub record IsGiven (b : List ℕ) (version j f : ℕ) (found : List ℕ) (s : Sealed) : Type 0 where
  pub long : length found ≡ s.width
  pub own : version ≡ s.version → found ≡ fragment s.code s.width b j f

-- the bytes can mend the value: if it has this version and the fragment f of stripe j can be
-- rebuilt, they are that fragment
pub record IsRepairFor (version j f : ℕ) (bytes : List ℕ) (s : Sealed) : Type 0 where
  pub long : length bytes ≡ s.width
  pub own : version ≡ s.version → IsRebuildable s j f → IsFragmentOf s j f bytes
