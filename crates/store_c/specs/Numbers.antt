-- The numbers of a store, for C.
use Rattle.std.specs.Prelude.{◌≡◌, ◌≢◌, ℕ, ◌-◌, length, None}
use Rattle.book.specs.declared.numbers.Numbers.{Numbers}
use Rattle.book.specs.Numbers.{AreNumbersOf}
use Rattle.book.specs.Trimming.{journaled}
use Rattle.shared.specs.Passes.{Shows, FindsBusy}
use Rattle.shared.specs.Deeds.{Takes}
use Rattle.store_c.specs.declared.numbers.StoreNumbers.{StoreNumbers}
use Rattle.store_c.specs.Status.{busy, done}

-- the numbers that C gets
abbrev pub numbers_for_c : StoreNumbers → Numbers
numbers_for_c r = record { blobs = r.blobs; bytes = r.bytes; lost = r.lost; unrecoverable = r.unrecoverable; calls = r.calls; entries = r.entries }

-- C gets the numbers of the history that the session has seen by now, which has no call of this; or
-- another thread was in the critical section
pub data IsNumbersCall (v : Shows) (status : ℕ) (old new : StoreNumbers) (w : Shows) : Type 0 where
  counted : status ≡ done → Takes v None w → AreNumbersOf v.store.width w.seen (numbers_for_c new) → new.entries ≡ journaled v.store.limit (length w.seen - w.trimmed) → IsNumbersCall v status old new w
  busy_counting : status ≡ busy → FindsBusy v w → v.room ≢ 64 → new ≡ old → IsNumbersCall v status old new w
