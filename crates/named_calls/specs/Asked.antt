-- What can be asked of a store, by the history that was seen where the name's blobs are, and the
-- width there.
use Rattle.std.specs.Prelude.{◌≡◌, ◌⊎◌, ℕ, List, Result, Err}
use Rattle.sealed.specs.declared.fault.Fault.{Fault}
use Rattle.sealed.specs.declared.fault.Fault.TheVariants.{NoMemory, TooLong}
use Rattle.sealed.specs.Blob.{nothing}
use Rattle.sealed.specs.Sealed.{StandsFor}
use Rattle.history.specs.Step.{Operation}
use Rattle.history.specs.Parts.{name_of}
use Rattle.history.specs.History.{History, call_of}
use Rattle.book.specs.Known.{IsFragmentIn}
use Rattle.book.specs.declared.answer.Answer.{Answer}
use Rattle.requests.specs.declared.request.Request.{Request}
use Rattle.requests.specs.declared.request.Request.TheVariants.{Put, Install, Restore}
use Rattle.requests.specs.Requests.{operation_of}

-- the name that an operation is on, and a request
abbrev pub operation_name : Operation → List ℕ
operation_name o = name_of (call_of o)

abbrev pub request_name : Request → List ℕ
request_name request = operation_name (operation_of request)

-- a caller that has seen this history can ask it of a store whose fragments have this width
abbrev pub CanAskIn : History → ℕ → Request → Type 0
CanAskIn h w (Put alloc n s) = (s.width ≡ w) × ((b : List ℕ) × StandsFor s b nothing)
CanAskIn h w (Install alloc n version j f bytes) = IsFragmentIn h w n version j f bytes
CanAskIn h w (Restore alloc n version j f bytes) = IsFragmentIn h w n version j f bytes
CanAskIn h w request = Unit {0}

-- a put was refused before it entered: sealing was out of memory, or the blob is too long. The pass
-- is as it was
abbrev pub IsRefusedBefore : {V : Type 0} → V → Result Answer Fault → V → Type 0
IsRefusedBefore v r w = (w ≡ v) × ((r ≡ Err NoMemory) ⊎ (r ≡ Err TooLong))
