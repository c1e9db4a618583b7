-- What a request makes of a book, and why none is too long.
use Rattle.std.specs.Prelude.{◌↔◌, OnErr}
use Rattle.std.specs.Global.{Global}
use Rattle.std.proofs.Common.{◌≡◌, ◌⊎◌, ℕ, ◌≤◌, List, length, Result, Ok, Err, IfOk, IfErr, ap, sym, subst, ◌∙◌, ⊎_elim, arith}
use Rattle.sealed.specs.declared.fault.Fault.{Fault}
use Rattle.sealed.specs.declared.fault.Fault.TheVariants.{NoMemory, JournalFull, TooLong}
use Rattle.sealed.specs.declared.value.Sealed.{Sealed}
use Rattle.sealed.specs.Blob.{nothing}
use Rattle.sealed.specs.Layout.{stripe_count}
use Rattle.sealed.specs.Sealed.{StandsFor}
use Rattle.history.specs.Step.{put}
use Rattle.book.specs.declared.answer.Answer.{Answer}
use Rattle.book.specs.Contents.{Contents}
use Rattle.book.specs.Serial.{IsTooLong}
use Rattle.book.specs.Holds.{CarriesOn, KeepsBase, IsCallFault}
use Rattle.requests.specs.declared.request.Request.{Request}
use Rattle.requests.specs.declared.request.Request.TheVariants.{Put, Read, Lose, Install, Restore, Delete, Stat}
use Rattle.book.specs.BlobBytes.{blob_bytes}
use Rattle.requests.specs.Requests.{operation_of, CanMake, IsAnswerTo, IsFaultOf}
use Rattle.requests.specs.Visits.{IsRequestMade}
use Rattle.book.proofs.BlobBytes.{bytes_are}

-- a put carries on the bytes that are read out of its sealed value
put_carries : (r : Result Answer Fault) (old new : Contents) (who : ℕ) (n : List ℕ) (s : Sealed) → (b : List ℕ) × StandsFor s b nothing
    → IfOk r (λ a. (b : List ℕ) → StandsFor s b nothing → CarriesOn old new who (put n s.code b) a) → IfOk r (CarriesOn old new who (put n s.code (blob_bytes s)))
put_carries (Ok a) old new who n s stands carries = carries (blob_bytes s) (subst (λ b. StandsFor s b nothing) (sym (bytes_are s stands.0 stands.1)) stands.1)
put_carries (Err e) old new who n s stands carries = tt

-- and makes its request
pub put_made : (r : Result Answer Fault) (found old new : Contents) (who : ℕ) (alloc : Global) (n : List ℕ) (s : Sealed) → found ≡ old → CanMake old (Put alloc n s) → IfOk r (λ a. (b : List ℕ) → StandsFor s b nothing → CarriesOn found new who (put n s.code b) a)
    → (r ≡ Err JournalFull) ↔ (length found.entries ≡ found.limit) → KeepsBase found new → IfErr r IsCallFault → OnErr r (new ≡ found) → IsRequestMade who (Put alloc n s) old new r
put_made r found old new who alloc n s same can carries full unchanged faults err =
    subst (λ (book : Contents). IsRequestMade who (Put alloc n s) book new r) same (record {
      ok = put_carries r found new who n s can.1 carries;
      answer = any_answer r;
      no_memory = λ _. tt;
      full = full;
      unchanged = unchanged;
      faults = faults;
      err = err;
    })
  where
    any_answer : (r : Result Answer Fault) → IfOk r (IsAnswerTo found (Put alloc n s))
    any_answer (Ok a) = tt
    any_answer (Err e) = tt

neither : {f : Fault} → (f ≡ NoMemory) ⊎ (f ≡ JournalFull) → f ≡ TooLong → ⊥
neither is long = ⊎_elim (λ (m : _ ≡ NoMemory). cc (m, long)) (λ (m : _ ≡ JournalFull). cc (m, long)) is

-- no request is too long
pub never_too_long : (r : Result Answer Fault) (request : Request) → IfErr r (IsFaultOf request) → r ≡ Err TooLong → ⊥
never_too_long (Ok a) request faults is = absurd (cc (is))
never_too_long (Err f) (Put alloc n s) faults is = neither faults (cc (is))
never_too_long (Err f) (Read n start len) faults is = neither faults (cc (is))
never_too_long (Err f) (Lose alloc n j g) faults is = neither faults (cc (is))
never_too_long (Err f) (Install alloc n version j g bytes) faults is = neither faults (cc (is))
never_too_long (Err f) (Restore alloc n version j g bytes) faults is = neither faults (cc (is))
never_too_long (Err f) (Delete n) faults is = cc (faults, is)
never_too_long (Err f) (Stat n) faults is = cc (faults, is)

-- no request that can be made is too long
pub request_fits : (book : Contents) (request : Request) → CanMake book request → ¬ IsTooLong book.width (operation_of request)
request_fits book (Put alloc n s) can over =
    let few : length s.stripes ≤ 4096 = s.shaped.few in
    let count : length s.stripes ≡ stripe_count s.code s.width s.len = s.shaped.count in
    let long : length (blob_bytes s) ≡ s.len = ap length (bytes_are s can.1.0 can.1.1) ∙ sym can.1.1.length_is in
    let same : stripe_count s.code book.width (length (blob_bytes s)) ≡ stripe_count s.code s.width s.len = λ i. stripe_count s.code (sym can.0 i) (long i) in
    absurd (omega arith)
request_fits book (Read n start len) can over = over
request_fits book (Lose alloc n j g) can over = over
request_fits book (Install alloc n version j g bytes) can over = over
request_fits book (Restore alloc n version j g bytes) can over = over
request_fits book (Delete n) can over = over
request_fits book (Stat n) can over = over
