-- What is known of a call that does not wait and may give its request back.
use Rattle.std.proofs.Common.{Result, Ok, Err, IfOk, IfErr}
use Rattle.sealed.specs.declared.fault.Fault.{Fault}
use Rattle.sealed.specs.declared.fault.Fault.TheVariants.{Busy}
use Rattle.book.specs.declared.answer.Answer.{Answer}
use Rattle.requests.specs.declared.request.Request.{Request}

-- its reply, which is `Busy` if the request comes back
abbrev pub replied : Result (Result Answer Fault) Request → Result Answer Fault
replied (Ok reply) = reply
replied (Err request) = Err Busy

pub replies : (r : Result (Result Answer Fault) Request) (P : Result Answer Fault → Type 0) → IfOk r P → IfErr r (λ _. P (Err Busy)) → P (replied r)
replies (Ok reply) P is back = is
replies (Err request) P is back = back

pub if_reply : (r : Result (Result Answer Fault) Request) (P : Result Answer Fault → Type 0) → P (replied r) → IfOk r P
if_reply (Ok reply) P is = is
if_reply (Err request) P is = tt

pub if_back : (r : Result (Result Answer Fault) Request) (P : Result Answer Fault → Type 0) → P (replied r) → IfErr r (λ _. P (Err Busy))
if_back (Ok reply) P is = tt
if_back (Err request) P is = is

-- what follows from what is known of either
pub ok_as : {A E : Type 0} {P Q : A → Type 0} (r : Result A E) → IfOk r P → ((a : A) → P a → Q a) → IfOk r Q
ok_as (Ok a) is then = then a is
ok_as (Err e) is then = tt

pub err_as : {A E : Type 0} {P Q : E → Type 0} (r : Result A E) → IfErr r P → ((e : E) → P e → Q e) → IfErr r Q
err_as (Ok a) is then = tt
err_as (Err e) is then = then e is
