-- The errors that a call may have.
use Rattle.std.specs.Prelude.{◌≡◌, ◌⊎◌, ◌↔◌, ◌<◌, length, Result, Err, IfErr}
use Rattle.sealed.specs.Layout.{stripe_count}
use Rattle.sealed.specs.declared.fault.Fault.{Fault}
use Rattle.sealed.specs.declared.fault.Fault.TheVariants.{Busy, NoMemory, JournalFull, TooLong}
use Rattle.history.specs.Step.{Operation, put, read, lose, repair, restore, delete, stat}
use Rattle.book.specs.Holds.{IsCallFault}
use Rattle.book.specs.declared.answer.Answer.{Answer}
use Rattle.shared.specs.Passes.{Shows}
use Rattle.shared.specs.Calls.{CanGrant}

abbrev pub IsBusyOrCallFault : Fault → Type 0
IsBusyOrCallFault fault = (fault ≡ Busy) ⊎ IsCallFault fault

abbrev pub IsBusyOrFull : Fault → Type 0
IsBusyOrFull fault = (fault ≡ Busy) ⊎ (fault ≡ JournalFull)

-- An error is one that the operation may have. A put is too long if and only if its blob needs more
-- than 4,096 stripes. A read is out of memory only if the range can be granted
abbrev pub HasKnownFault : Shows → Operation → Result Answer Fault → Shows → Type 0
HasKnownFault v (put n code b) reply w =
    IfErr reply (λ e. (e ≡ Busy) ⊎ IsCallFault e ⊎ (e ≡ TooLong)) × ((reply ≡ Err TooLong) ↔ (4096 < stripe_count code v.store.width (length b)))
HasKnownFault v (read n start len) reply w = IfErr reply IsBusyOrCallFault × (reply ≡ Err NoMemory → CanGrant w.seen v.store.width n start len)
HasKnownFault v (lose n j f) reply w = IfErr reply IsBusyOrCallFault
HasKnownFault v (repair n j f) reply w = IfErr reply IsBusyOrCallFault
HasKnownFault v (restore n x j f) reply w = IfErr reply IsBusyOrCallFault
HasKnownFault v (delete n) reply w = IfErr reply IsBusyOrFull
HasKnownFault v (stat n) reply w = IfErr reply IsBusyOrFull
