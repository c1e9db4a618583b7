-- The effect of a loss or a repair on a catalogue.
use Rattle.std.specs.Prelude.{◌≡◌, ℕ, List, Option, None, Some, cond}
use Rattle.std.specs.FinSet as set
use Rattle.std.specs.Map.{lookup}
use Rattle.std.specs.BTreeMap.{is_at}
use Rattle.sealed.specs.declared.value.Sealed.{Sealed}
use Rattle.sealed.specs.Blob.{Lost, fragment}
use Rattle.sealed.specs.Sealed.{StandsFor}
use Rattle.history.specs.declared.note.Note.{Note}
use Rattle.history.specs.declared.note.Note.TheVariants as note
use Rattle.book.specs.Lacking.{reply_for}
use Rattle.history.specs.Names.{name_cmp}
use Rattle.history.specs.Views.{View}

-- the new value represents the bytes of the old one, with its lost fragments changed
pub record IsWith (change : Lost → Lost) (old new : Sealed) : Type 0 where
  pub version : new.version ≡ old.version
  pub len : new.len ≡ old.len
  pub width : new.width ≡ old.width
  pub code : new.code ≡ old.code
  pub stands : (b : List ℕ) (lost : Lost) → StandsFor old b lost → StandsFor new b (change lost)

-- the value after a loss with this note
abbrev pub Loses : ℕ → ℕ → Note → Sealed → Sealed → Type 0
Loses j f (note.Lost v) old new = IsWith (λ lost. set.insert lost (j, f)) old new
Loses j f m old new = new ≡ old

-- and after a repair
abbrev pub Mends : ℕ → ℕ → Note → Sealed → Sealed → Type 0
Mends j f (note.Repaired v) old new = IsWith (λ lost. set.remove lost (j, f)) old new
Mends j f m old new = new ≡ old

-- the new value has the fragment f of stripe j as well. It represents the bytes of the old one of
-- which x is that fragment
pub record IsRestored (j f : ℕ) (x : List ℕ) (old new : Sealed) : Type 0 where
  pub version : new.version ≡ old.version
  pub len : new.len ≡ old.len
  pub width : new.width ≡ old.width
  pub code : new.code ≡ old.code
  pub stands : (b : List ℕ) (lost : Lost) → x ≡ fragment old.code old.width b j f → StandsFor old b lost → StandsFor new b (set.remove lost (j, f))

-- and after a restoration of version v with the bytes x
abbrev pub Restores : ℕ → ℕ → ℕ → List ℕ → Note → Sealed → Sealed → Type 0
Restores v j f x (note.Repaired y) old new = (v ≡ old.version) × IsRestored j f x old new
Restores v j f x m old new = new ≡ old

abbrev pub Catalogue : Type 0
Catalogue = List (List ℕ × Sealed)

abbrev pub value_at : Catalogue → List ℕ → Option Sealed
value_at catalogue n = lookup (is_at (name_cmp n)) catalogue

-- the note is the reply by the value of the name, and no other value is replaced
pub record Replaces (reply : ℕ → Option View → Note) (Becomes : Sealed → Sealed → Type 0) (old new : Catalogue) (n : List ℕ) (m : Note) : Type 0 where
  pub note_is : m ≡ reply_for reply (value_at old n)
  pub absent : value_at old n ≡ None → new ≡ old
  pub present : (s : Sealed) → value_at old n ≡ Some s
      → (t : Sealed) × Becomes s t × ((q : List ℕ) → value_at new q ≡ cond (is_at (name_cmp n) q) (Some t) (value_at old q))
