-- Calls as they are asked of a store.
use Rattle.std.specs.Prelude.{◌≡◌, ◌⊎◌, ◌<◌, ℕ, List, length, Result, Ok, Err}
use Rattle.lrc_code.specs.declared.Code.{Code}
use Rattle.sealed.specs.declared.fault.Fault.{Fault}
use Rattle.sealed.specs.declared.fault.Fault.TheVariants.{NoMemory, TooLong}
use Rattle.sealed.specs.declared.value.Sealed.{Sealed}
use Rattle.sealed.specs.Layout.{stripe_count}
use Rattle.sealed.specs.Blob.{nothing}
use Rattle.sealed.specs.Sealed.{StandsFor}
use Rattle.history.specs.History.{History}
use Rattle.book.specs.declared.answer.Answer.{Answer}
use Rattle.book.specs.Known.{IsFragmentIn}
use Rattle.requests.specs.declared.request.Request.{Request}
use Rattle.requests.specs.declared.request.Request.TheVariants.{Put, Read, Install, Restore}
use Rattle.shared.specs.Calls.{IfGranted, GrantedIn, CanGrant}
use Rattle.shared.specs.Passes.{Shows}

-- a caller with this pass can ask it of a store
abbrev pub CanAsk : Shows → Request → Type 0
CanAsk v (Put alloc n s) = (s.width ≡ v.store.width) × ((b : List ℕ) × StandsFor s b nothing)
CanAsk v (Install alloc n version j f bytes) = IsFragmentIn v.seen v.store.width n version j f bytes
CanAsk v (Restore alloc n version j f bytes) = IsFragmentIn v.seen v.store.width n version j f bytes
CanAsk v request = Unit {0}

-- what a pass is granted
abbrev pub IsGrantedTo : History → ℕ → Request → Answer → Type 0
IsGrantedTo h w (Read n start len) answer = IfGranted answer (GrantedIn h w n start len)
IsGrantedTo h w request answer = Unit {0}

-- a read wants memory only where the history grants it
abbrev pub WantedFor : History → ℕ → Request → Type 0
WantedFor h w (Read n start len) = CanGrant h w n start len
WantedFor h w request = Unit {0}

-- what sealing these bytes gives, in this width and code. The value has no lost fragment. A fault is
-- `NoMemory`, or `TooLong` if the blob needs more than 4,096 stripes
abbrev pub IsSealing : ℕ → Code → List ℕ → Result Sealed Fault → Type 0
IsSealing w code b (Ok s) = (s.width ≡ w) × (s.code ≡ code) × StandsFor s b nothing
IsSealing w code b (Err e) = (e ≡ NoMemory) ⊎ ((e ≡ TooLong) × (4096 < stripe_count code w (length b)))
