-- Calls as they are made on the book in the gate.
use Rattle.std.specs.Prelude.{◌≡◌, ℕ, List}
use Rattle.sealed.specs.declared.fault.Fault.{Fault}
use Rattle.sealed.specs.declared.fault.Fault.TheVariants.{JournalFull}
use Rattle.sealed.specs.Blob.{nothing}
use Rattle.sealed.specs.Sealed.{StandsFor}
use Rattle.history.specs.Step.{Operation, put, read, lose, repair, restore, delete, stat}
use Rattle.history.specs.History.{History}
use Rattle.book.specs.declared.answer.Answer.{Answer}
use Rattle.book.specs.Asked.{IsReadAnswer, IsGrantable}
use Rattle.book.specs.Contents.{Contents, sealed_at}
use Rattle.book.specs.Known.{IsFragmentIn}
use Rattle.book.specs.Holds.{IsCallFault, HoldsHistory}
use Rattle.requests.specs.declared.request.Request.{Request}
use Rattle.requests.specs.declared.request.Request.TheVariants.{Put, Read, Lose, Install, Restore, Delete, Stat}
use Rattle.book.specs.BlobBytes.{blob_bytes}

-- what is asked for
abbrev pub operation_of : Request → Operation
operation_of (Put alloc n s) = put n s.code (blob_bytes s)
operation_of (Read n start len) = read n start len
operation_of (Lose alloc n j f) = lose n j f
operation_of (Install alloc n version j f bytes) = repair n j f
operation_of (Restore alloc n version j f bytes) = restore n version j f
operation_of (Delete n) = delete n
operation_of (Stat n) = stat n

-- it can be made on this book
abbrev pub CanMake : Contents → Request → Type 0
CanMake book (Put alloc n s) = (s.width ≡ book.width) × ((b : List ℕ) × StandsFor s b nothing)
CanMake book (Install alloc n version j f bytes) = (h : History) × HoldsHistory book h × IsFragmentIn h book.width n version j f bytes
CanMake book (Restore alloc n version j f bytes) = (h : History) × HoldsHistory book h × IsFragmentIn h book.width n version j f bytes
CanMake book request = Unit {0}

-- what a book answers to a read
abbrev pub IsAnswerTo : Contents → Request → Answer → Type 0
IsAnswerTo book (Read n start len) answer = IsReadAnswer (sealed_at book n) start len answer
IsAnswerTo book request answer = Unit {0}

-- a read allocates only if the book can grant it
abbrev pub MayWant : Contents → Request → Type 0
MayWant book (Read n start len) = IsGrantable (sealed_at book n) start len
MayWant book request = Unit {0}

-- `delete` and `stat` do not allocate
abbrev pub IsFaultOf : Request → Fault → Type 0
IsFaultOf (Delete n) fault = fault ≡ JournalFull
IsFaultOf (Stat n) fault = fault ≡ JournalFull
IsFaultOf request fault = IsCallFault fault
