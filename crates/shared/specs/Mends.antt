-- What the inspection before a repair finds.
use Rattle.std.specs.Prelude.{◌≡◌, ◌⊎◌, ℕ, ◌+◌, List, None, Ok, Err}
use Rattle.std.specs.Global.{Global}
use Rattle.sealed.specs.declared.value.Sealed.{Sealed}
use Rattle.sealed.specs.Rebuilding.{IsRebuildable, IsFragmentOf}
use Rattle.history.specs.State.{Blob}
use Rattle.history.specs.Step.{repair}
use Rattle.history.specs.History.{History, HasPut}
use Rattle.book.specs.Holds.{Represents}
use Rattle.requests.specs.declared.inspection.Inspection.{Inspection}
use Rattle.requests.specs.declared.inspection.Inspection.TheVariants.{Done, Refused, Rebuildable}
use Rattle.requests.specs.declared.request.Request.{Request}
use Rattle.requests.specs.declared.request.Request.TheVariants.{Install}
use Rattle.shared.specs.Passes.{Shows, FindsBusy}
use Rattle.shared.specs.Deeds.{Takes}
use Rattle.shared.specs.Calls.{Called, HasJournalRoom}

-- the value represents a blob that was put in this history
pub record IsKnown (h : History) (w : ℕ) (n : List ℕ) (s : Sealed) : Type 0 where
  pub blob : Blob
  pub represents : Represents w s blob
  pub put_is : HasPut h blob.version n blob.code blob.bytes

-- a pass entered once, and found that there is room, and that the fragment can be rebuilt from this
-- value
pub record CanMend (v : Shows) (n : List ℕ) (j f : ℕ) (s : Sealed) (w : Shows) : Type 0 where
  pub takes : Takes v None w
  pub room : HasJournalRoom w
  pub known : IsKnown w.seen w.store.width n s
  pub rebuildable : IsRebuildable s j f
  pub visits : w.visits ≡ v.visits + 1

-- a pass that does not wait found somebody inside: it is as it was, or has looked before that and
-- found a value to rebuild from
abbrev pub FoundBusy : Shows → List ℕ → ℕ → ℕ → Shows → Type 0
FoundBusy v n j f w = FindsBusy v w ⊎ ((s : Sealed) × (u : Shows) × CanMend v n j f s u × FindsBusy u w)

-- what a pass found
abbrev pub InspectionGives : Shows → List ℕ → ℕ → ℕ → Inspection → Shows → Type 0
InspectionGives v n j f (Done a) w = Called v (repair n j f) (Ok a) w
InspectionGives v n j f (Refused e) w = Called v (repair n j f) (Err e) w
InspectionGives v n j f (Rebuildable s) w = CanMend v n j f s.value w

-- the request installs a fragment that was rebuilt from this value, under its version
pub record IsInstallFrom (s : Sealed) (n : List ℕ) (j f : ℕ) (request : Request) : Type 0 where
  pub alloc : Global
  pub bytes : List ℕ
  pub is : request ≡ Install alloc n s.version j f bytes
  pub rebuilt : IsFragmentOf s j f bytes
