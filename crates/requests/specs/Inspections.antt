-- What the inspection before a repair finds in a book.
use Rattle.std.specs.Prelude.{◌≡◌, ◌≢◌, ◌⊎◌, ℕ, List, length, Some}
use Rattle.sealed.specs.declared.fault.Fault.{Fault}
use Rattle.sealed.specs.declared.fault.Fault.TheVariants.{NoMemory, JournalFull}
use Rattle.sealed.specs.Rebuilding.{IsRebuildable}
use Rattle.history.specs.Step.{repair}
use Rattle.book.specs.Contents.{Contents, sealed_at}
use Rattle.book.specs.Holds.{CarriesOn}
use Rattle.requests.specs.declared.inspection.Inspection.{Inspection}
use Rattle.requests.specs.declared.inspection.Inspection.TheVariants.{Done, Refused, Rebuildable}

-- what is found in the book: the repair was made, or was refused, or nothing was changed, there is room and the fragment can be rebuilt outside
abbrev pub FoundIn : Contents → Contents → ℕ → List ℕ → ℕ → ℕ → Inspection → Type 0
FoundIn old new who n j f (Done a) = CarriesOn old new who (repair n j f) a × (length old.entries ≢ old.limit)
FoundIn old new who n j f (Refused e) = (new ≡ old) × (((e ≡ NoMemory) × (length old.entries ≢ old.limit)) ⊎ ((e ≡ JournalFull) × (length old.entries ≡ old.limit)))
FoundIn old new who n j f (Rebuildable s) = (new ≡ old) × (sealed_at old n ≡ Some s.value) × IsRebuildable s.value j f × (length old.entries ≢ old.limit)

-- where the inspection was refused
abbrev pub IfRefused : Inspection → (Fault → Type 0) → Type 0
IfRefused (Refused e) P = P e
IfRefused inspection P = Unit {0}
