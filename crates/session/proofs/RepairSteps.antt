-- A step through the repairs of a plan.
use Rattle.std.proofs.Common.{◌≡◌, ◌≢◌, ◌<◌, ℕ, zero, suc, List, [], ◌∷◌, ◌++◌, ◌-◌, length, drop, get_or, true, false, Option, None, Some, Result, Ok, Err, refl, sym, ap, subst, arith}
use Rattle.std.specs.Prelude.{is_ok, IfErr, IsSome}
use Rattle.std.proofs.lemmas.Bool.{false≢true}
use Rattle.std.specs.List.{last_or}
use Rattle.std.specs.Option.{option_to_list}
use Rattle.history.specs.Step.{repair}
use Rattle.book.specs.declared.answer.Answer.{Answer}
use Rattle.book.specs.declared.plan.Item.{Item}
use Rattle.sealed.specs.declared.fault.Fault.{Fault}
use Rattle.sealed.specs.declared.fault.Fault.TheVariants.{Busy}
use Rattle.shared.specs.Passes.{Shows}
use Rattle.shared.specs.Calls.{Called}
use Rattle.shared.specs.Mends.{FoundBusy}
use Rattle.session.specs.KnownFault.{IsBusyOrCallFault}
use Rattle.session.specs.RepairStep.{HasRepaired, IsRepairStep}

pub popped : (items : List Item) (first : Option Item) (left : List Item) → items ≡ option_to_list first ++ left → IsSome first → left ≡ drop 1 items
popped items None left e some = absurd (false≢true some)
popped items (Some item) left e some = sym (ap (drop 1) e)

pub repaired : (item : Item) (name : List ℕ) (fragment : ℕ) (v : Shows) (reply : Result Answer Fault) (w : Shows) → name ≡ item.name → fragment ≡ item.f → Called v (repair name item.stripe fragment) reply w → IfErr reply IsBusyOrCallFault
    → (reply ≡ Err Busy → FoundBusy v name item.stripe fragment w) → (v.room ≡ 64 → reply ≢ Err Busy) → HasRepaired item v reply w
repaired item name fragment v reply w name_is fragment_is called faults busy lone = record {
  called = subst (λ n. Called v (repair n item.stripe item.f) reply w) name_is (subst (λ f. Called v (repair name item.stripe f) reply w) fragment_is called);
  faults = faults;
  busy = subst (λ n. reply ≡ Err Busy → FoundBusy v n item.stripe item.f w) name_is (subst (λ f. reply ≡ Err Busy → FoundBusy v name item.stripe f w) fragment_is busy);
  lone = lone;
}

pub stepped : (items : List Item) (item : Item) (v : Shows) (reply : Result Answer Fault) (left : List Item) (w : Shows) → 0 < length items → item ≡ get_or items 0 item → HasRepaired item v reply w
    → (is_ok reply ≡ true → left ≡ drop 1 items) → (is_ok reply ≡ false → left ≡ items) → IsRepairStep items v (Some reply) left w
stepped [] item v reply left w inside is has done kept = absurd (omega (arith, inside))
stepped (first ∷ items) item v (Ok a) left w inside is has done kept = (subst (λ i. HasRepaired i v (Ok a) w) is has, done refl)
stepped (first ∷ items) item v (Err e) left w inside is has done kept = (subst (λ i. HasRepaired i v (Err e) w) is has, kept refl)

-- ---- the last item of a part
pub last_of_none : (after : Option Item) (items : List Item) → length items ≡ 0 → after ≡ last_or after items
last_of_none after [] e = refl
last_of_none after (item ∷ items) e = absurd (omega (arith, e))

pub last_of_some : (after : Option Item) (items : List Item) (n : ℕ) (item : Item) → length items ≡ suc n → item ≡ get_or items n item → Some item ≡ last_or after items
last_of_some after [] n item long is = absurd (omega (arith, long))
last_of_some after (one ∷ []) zero item long is = ap Some is
last_of_some after (one ∷ []) (suc n) item long is = absurd (omega (arith, long))
last_of_some after (one ∷ next ∷ items) zero item long is = absurd (omega (arith, long))
last_of_some after (one ∷ next ∷ items) (suc n) item long is = last_of_some (Some one) (next ∷ items) n item (omega (arith, long)) is
