-- What can be asked of a store alone.
use Rattle.std.proofs.Common.{◌≡◌, ap, sym, subst, ◌∙◌, ℕ}
use Rattle.book.specs.Known.{IsFragmentIn}
use Rattle.requests.specs.declared.request.Request.{Request}
use Rattle.requests.specs.declared.request.Request.TheVariants.{Put, Install, Restore}
use Rattle.shared.specs.Passes.{Which, Shows}
use Rattle.shared.specs.Requests.{CanAsk}
use Rattle.named_calls.specs.Asked.{CanAskIn}

pub can_ask : (v : Shows) (s : Which) (request : Request) → v.store ≡ s → CanAskIn v.seen s.width request → CanAsk v request
can_ask v s (Put alloc n b) is can = (can.0 ∙ ap (λ (t : Which). t.width) (sym is), can.1)
can_ask v s (Install alloc n version j f bytes) is can = subst (λ (w : ℕ). IsFragmentIn v.seen w n version j f bytes) (ap (λ (t : Which). t.width) (sym is)) can
can_ask v s (Restore alloc n version j f bytes) is can = subst (λ (w : ℕ). IsFragmentIn v.seen w n version j f bytes) (ap (λ (t : Which). t.width) (sym is)) can
can_ask v s request is can = tt
