-- What a worker did in any store, repair by repair, and what that is in a store alone.
use Rattle.std.proofs.Common.{◌≡◌, ◌⊎◌, ⊎_elim, ℕ, List, [], ◌∷◌, ◌++◌, length, Result, Ok, Err, IfOk, IfErr, refl, ap, sym, subst, ◌∙◌}
use Rattle.std.specs.Vec.{vec_capacity}
use Rattle.std.proofs.lemmas.Option.{slice_get_within}
use Rattle.sealed.specs.declared.fault.Fault.TheVariants.{NoMemory, JournalFull}
use Rattle.book.specs.declared.plan.Item.{Item}
use Rattle.shared.specs.Passes.{Shows}
use Rattle.shared.proofs.Serving.{serves_append, serves_nothing}
use Rattle.mender.specs.declared.done.Done.{Done}
use Rattle.mender.specs.declared.done.WorkFault.{WorkFault}
use Rattle.mender.specs.Drawn.{DrawerState}
use Rattle.mender.specs.Worked.{repair_of, replies_of, asks_done, AreMended, Stopped, StoppedFull}
use Rattle.mender.specs.Made.{Repairing, AreMade, IsHalted, IsRepaired}
use Rattle.mender.proofs.Working.{InHand, mended_one, mended_no_more, stopped_full}

-- ---- results
pub on_ok : {A E : Type 0} (r : Result A E) (P Q : A → Type 0) → ((a : A) → P a → Q a) → IfOk r P → IfOk r Q
on_ok (Ok a) P Q f is = f a is
on_ok (Err e) P Q f is = tt

pub on_err : {A E : Type 0} (r : Result A E) (P Q : E → Type 0) → ((e : E) → P e → Q e) → IfErr r P → IfErr r Q
on_err (Ok a) P Q f is = tt
on_err (Err e) P Q f is = f e is

-- ---- any store
module _ {V : Type 0} (repaired : Repairing V) where
  made_last : (v u w : V) (done : List Done) (d : Done) → AreMade repaired v done u → repaired u d.item (Ok d.answer) w → AreMade repaired v (done ++ d ∷ []) w
  made_last v u w [] d same made = (w, subst (λ (x : V). repaired x d.item (Ok d.answer) w) same made, refl)
  made_last v u w (e ∷ done) d rest made = (rest.0, rest.1, made_last rest.0 u w done d rest.2 made)

  -- a repair more was made
  pub made_more : (v u w : V) (done items items' : List Done) (d : Done) (it : Item) → AreMade repaired v done u → repaired u it (Ok d.answer) w → d.item ≡ it → items ≡ done → items' ≡ items ++ d ∷ []
      → AreMade repaired v items' w
  made_more v u w done items items' d it rest made same kept pushed =
      subst (λ (l : List Done). AreMade repaired v l w) (sym (pushed ∙ ap (λ l. l ++ d ∷ []) kept))
      (made_last v u w done d rest (subst (λ (x : Item). repaired u x (Ok d.answer) w) (sym same) made))

  -- the repair of the item in hand was refused, or memory for its result was
  pub halted : (plan : List Item) (old new : DrawerState) (v u w : V) (done : List Done) (n : ℕ) (it : Item) (stop : WorkFault) → InHand plan old new done n it → AreMade repaired v done u → stop.done.items ≡ done
      → ((stop.fault ≡ NoMemory) × (w ≡ u) × (vec_capacity stop.done ≡ length stop.done.items)) ⊎ repaired u it (Err stop.fault) w → IsHalted repaired plan old new v stop w
  halted plan old new v u w done n it stop h rest kept refused =
      let hand : InHand plan old new stop.done.items n it = subst (λ (l : List Done). InHand plan old new l n it) (sym kept) h in record {
        ticket = n;
        item = it;
        there = hand.there;
        none = hand.none;
        worked = hand.after;
        before = u;
        made = subst (λ (l : List Done). AreMade repaired v l u) (sym kept) rest;
        refused = refused;
      }

-- ---- a store alone
pub made_mended : (v w : Shows) (done : List Done) → AreMade IsRepaired v done w → AreMended v done w
made_mended v w [] same = subst (AreMended v []) (sym same) (serves_nothing v [])
made_mended v w (d ∷ done) (u, made, rest) = serves_append v u w (asks_done (d ∷ [])) (asks_done done) (replies_of (d ∷ [])) (replies_of done) refl (mended_one v u d made) (made_mended u w done rest)

module _ {plan : List Item} {old new : DrawerState} {v w : Shows} {stop : WorkFault} (halt : IsHalted IsRepaired plan old new v stop w) where
  pub halt_stopped : Stopped plan old new stop.done.items
  halt_stopped = (halt.ticket, slice_get_within plan halt.ticket halt.item halt.there, halt.none, halt.worked)

  before : AreMended v stop.done.items halt.before
  before = made_mended v halt.before stop.done.items halt.made

  pub halt_mended : AreMended v stop.done.items w
  halt_mended = ⊎_elim
      (λ (out : (stop.fault ≡ NoMemory) × (w ≡ halt.before) × (vec_capacity stop.done ≡ length stop.done.items)). subst (AreMended v stop.done.items) (sym out.1) before)
      (λ (made : IsRepaired halt.before halt.item (Err stop.fault) w). mended_no_more v halt.before w stop.done.items stop.done.items (repair_of halt.item) stop.fault before made refl) halt.refused

  -- only a repair meets a full journal
  full_repair : stop.fault ≡ JournalFull → IsRepaired halt.before halt.item (Err stop.fault) w
  full_repair full = ⊎_elim
      (λ (out : (stop.fault ≡ NoMemory) × (w ≡ halt.before) × (vec_capacity stop.done ≡ length stop.done.items)). absurd (cc (out.0, full)))
      (λ (made : IsRepaired halt.before halt.item (Err stop.fault) w). made) halt.refused

  pub halt_full : stop.fault ≡ JournalFull → StoppedFull plan old new v stop.done.items w
  halt_full full = stopped_full plan old new v halt.before w stop.done.items stop.done.items halt.ticket halt.item (repair_of halt.item) stop.fault before (full_repair full) refl (record { there = halt.there; none = halt.none; after = halt.worked }) refl full
