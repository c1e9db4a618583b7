-- What C gets of a reply.
use Rattle.std.proofs.Common.{◌≡◌, ◌≢◌, ℕ, Option, Some, Result, Err, refl, sym, subst}
use Rattle.sealed.specs.declared.fault.Fault.{Fault}
use Rattle.sealed.specs.declared.fault.Fault.TheVariants.{Busy}
use Rattle.history.specs.Step.{Operation}
use Rattle.book.specs.declared.answer.Answer.{Answer}
use Rattle.shared.specs.Passes.{Shows}
use Rattle.shared.specs.Calls.{Called}
use Rattle.session.specs.KnownFault.{HasKnownFault}
use Rattle.session.specs.declared.held.Held.{Held}
use Rattle.session.specs.declared.held.Held.TheVariants.{Session}
use Rattle.store_c.specs.Status.{status_of, version_of}
use Rattle.store_c.specs.OnSession.{IsAfterBusy, HasReply, IsOnSession}

-- if the slot held a session
pub on_session : (old new : Option Held) (v w : Shows) (number status : ℕ) (Unchanged : Type 0) (Did : Shows → Shows → Type 0) → old ≡ Some (Session v number) → new ≡ Some (Session w number) → Did v w
    → IsOnSession old status new Unchanged Did
on_session old new v w number status Unchanged Did was is did =
    subst (λ (h : Option Held). IsOnSession h status new Unchanged Did) (sym was) (subst (λ (h : Option Held). IsOnSession (Some (Session v number)) status h Unchanged Did) (sym is) (did, refl))

-- the same call, with its operation given in another form
pub replied : (v : Shows) (o p : Operation) (reply : Result Answer Fault) (status before after : ℕ) (w : Shows) → o ≡ p → Called v o reply w → HasKnownFault v o reply w → status ≡ status_of reply → after ≡ version_of before reply
    → (reply ≡ Err Busy → IsAfterBusy v o w) → (v.room ≡ 64 → reply ≢ Err Busy) → HasReply v p reply status before after w
replied v o p reply status before after w e called faults status_is version_is busy lone =
    subst (λ (q : Operation). HasReply v q reply status before after w) e (record { called = called; faults = faults; status_is = status_is; version_is = version_is; busy = busy; lone = lone })
