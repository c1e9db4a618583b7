-- Looks before a repair, and repairs with bytes that were rebuilt outside.
use Rattle.std.proofs.Common.{◌≡◌, ◌≢◌, ◌⊎◌, ℕ, ◌<◌, List, [], ◌∷◌, ◌++◌, length, Option, Some, None, Result, Ok, Err, IfSome, refl, ap, sym, subst, ◌∙◌, ⊎_elim, append_assoc}
use Rattle.std.proofs.lemmas.List.{append-nil}
use Rattle.std.specs.FinMap as finite
use Rattle.gate.specs.Places.{SeatState}
use Rattle.gate.specs.Events.{number_if}
use Rattle.lrc_code.specs.Code.{fragment_count}
use Rattle.sealed.specs.declared.value.Sealed.{Sealed}
use Rattle.sealed.specs.declared.fault.Fault.{Fault}
use Rattle.sealed.specs.declared.fault.Fault.TheVariants.{NoMemory, JournalFull}
use Rattle.sealed.specs.Layout.{HasFragment, stripe_count}
use Rattle.sealed.specs.Blob.{fragment}
use Rattle.sealed.specs.Rebuilding.{IsRebuildable, IsFragmentOf}
use Rattle.history.specs.State.{Blob}
use Rattle.history.specs.Step.{Operation, repair}
use Rattle.history.specs.History.{History, HasPut, state_of}
use Rattle.book.specs.declared.answer.Answer.{Answer}
use Rattle.book.specs.Contents.{Contents, sealed_at}
use Rattle.book.specs.Known.{IsFragmentIn}
use Rattle.book.specs.Serial.{Deed, Does, Act, events_in, standing_of}
use Rattle.book.specs.Holds.{Represents, Correspond}
use Rattle.book.proofs.Versions.{was_put}
use Rattle.requests.specs.declared.boxed_book.BoxedBook.{BoxedBook}
use Rattle.requests.specs.declared.inspection.Inspection.{Inspection}
use Rattle.requests.specs.declared.inspection.Inspection.TheVariants.{Done, Refused, Rebuildable}
use Rattle.shared.specs.Passes.{Which, Shows, seen_of, width_of, trimmed_of, shows}
use Rattle.shared.specs.Deeds.{deed_of, act_if, Takes}
use Rattle.shared.specs.Calls.{Called}
use Rattle.shared.specs.Requests.{CanAsk}
use Rattle.requests.specs.declared.request.Request.{Request}
use Rattle.requests.specs.Requests.{operation_of}
use Rattle.requests.specs.Inspections.{FoundIn}
use Rattle.shared.specs.Mends.{IsKnown, CanMend, InspectionGives, IsInstallFrom}
use Rattle.requests.proofs.Between.{GoesOn}
use Rattle.shared.proofs.Steps.{event, Stepped, told_history, takes, IsFullIf, call_goes_on, same_goes_on, room_seen, called}

-- the event of a repair, where the inspection made it
abbrev pub events_at_inspection : Inspection → ℕ → Operation → History
events_at_inspection (Done a) who o = event who o a ∷ []
events_at_inspection inspection who o = []

pub inspection_goes_on : (l : Inspection) (old new : Contents) (who : ℕ) (n : List ℕ) (j f : ℕ) → (new.width ≡ old.width) × (new.limit ≡ old.limit) × (new.base ≡ old.base)
    → FoundIn old new who n j f l → GoesOn old new (events_at_inspection l who (repair n j f)) 0
inspection_goes_on (Done a) old new who n j f kept is = call_goes_on (Ok a) old new who (repair n j f) kept is tt
inspection_goes_on (Refused e) old new who n j f kept is = same_goes_on old new is.0
inspection_goes_on (Rebuildable s) old new who n j f kept is = same_goes_on old new is.0

known_by : (w : ℕ) (found : Option Sealed) (had : Option Blob) (s : Sealed) → found ≡ Some s → Correspond w found had → (blob : Blob) × (had ≡ Some blob) × Represents w s blob
known_by w None had s is both = absurd (cc (is))
known_by w (Some t) None s is both = absurd both
known_by w (Some t) (Some blob) s is both = (blob, refl, (let same : t ≡ s = cc in subst (λ (x : Sealed). Represents w x blob) same both))

known : (p q : SeatState BoxedBook) (x : BoxedBook) (n : List ℕ) (s : Sealed) → Stepped p q x [] 0 → sealed_at x.0.value n ≡ Some s → IsKnown (seen_of q.list) (width_of q.list) n s
known p q x n s step found =
    let h : History = seen_of p.list ++ events_in step.others in
    let same : seen_of q.list ≡ h = step.seen ∙ append-nil h in
    let is = known_by x.0.value.width (sealed_at x.0.value n) (finite.get (state_of h).names n) s found ((told_history p q x [] 0 step).catalogue n) in
    record {
      blob = is.0;
      represents = subst (λ (w : ℕ). Represents w s is.0) step.holds.width is.2;
      put_is = was_put (width_of q.list) (seen_of q.list) step.legal n is.0 (ap (λ (g : History). finite.get (state_of g).names n) same ∙ is.1);
    }

-- why an inspection was refused, as a book says it of its calls
refused_full : (e : Fault) (book : Contents) → ((e ≡ NoMemory) × (length book.entries ≢ book.limit)) ⊎ ((e ≡ JournalFull) × (length book.entries ≡ book.limit)) → IsFullIf book (Err e)
refused_full e book is =
    ⊎_elim (λ (none : (e ≡ NoMemory) × (length book.entries ≢ book.limit)). ((λ there. absurd (other none.0 there)), (λ there. absurd (none.1 there))))
    (λ (full : (e ≡ JournalFull) × (length book.entries ≡ book.limit)). ((λ there. full.1), (λ there. ap (λ (f : Fault). Err f) full.0))) is
  where
    other : e ≡ NoMemory → ◌≡◌ {A = Result Answer Fault} (Err e) (Err JournalFull) → ⊥
    other none there = cc (none, there)

-- what an inspection of the book makes of a pass
pub inspection_found : (p q : SeatState BoxedBook) (x y : BoxedBook) (who : ℕ) (n : List ℕ) (j f : ℕ) (l : Inspection) → Stepped p q x (events_at_inspection l who (repair n j f)) 0 → trimmed_of q.list ≡ x.0.value.base.trimmed → FoundIn x.0.value y.0.value who n j f l
    → InspectionGives (shows p who) n j f l (shows q who)
inspection_found p q x y who n j f (Done a) step left is =
    called p q x who (repair n j f) (Ok a) step left ((λ e. absurd (cc (e))), (λ there. absurd (is.1 there))) (λ e. absurd (cc (e))) (λ e. cc (e))
inspection_found p q x y who n j f (Refused e) step left is =
    called p q x who (repair n j f) (Err e) step left (refused_full e x.0.value is.1) (λ full long. long)
    (λ long. ⊎_elim (λ (none : (e ≡ NoMemory) × (length x.0.value.entries ≢ x.0.value.limit)). cc (none.0, long)) (λ (there : (e ≡ JournalFull) × (length x.0.value.entries ≡ x.0.value.limit)). cc (there.0, long)) is.1)
inspection_found p q x y who n j f (Rebuildable s) step left is = record {
  takes = takes p q x [] 0 who None step refl tt;
  room = room_seen p q x who step left is.3;
  known = known p q x n s.value step is.1;
  rebuildable = is.2;
  visits = step.visits;
}

-- a fragment of the value is that of the put
pub known_fragment : (h : History) (w : ℕ) (n : List ℕ) (s : Sealed) (j f : ℕ) (bytes : List ℕ) → IsKnown h w n s → HasFragment s.code s.width s.len j f → IsFragmentOf s j f bytes → IsFragmentIn h w n s.version j f bytes
known_fragment h w n s j f bytes k has is = record {
  code = k.blob.code;
  bytes = k.blob.bytes;
  put = subst (λ (v : ℕ). HasPut h v n k.blob.code k.blob.bytes) (sym k.represents.version) k.put_is;
  stripe = subst (λ (c : ℕ). j < c) (λ i. stripe_count (k.represents.code i) (k.represents.width i) (k.represents.stands.length_is i)) has.0;
  number = subst (λ c. f < fragment_count c) k.represents.code has.1;
  is = is k.blob.bytes k.blob.lost k.represents.stands ∙ (λ i. fragment (k.represents.code i) (k.represents.width i) k.blob.bytes j f);
}

pub can_install : (v : Shows) (n : List ℕ) (s : Sealed) (j f : ℕ) (request : Request) → IsKnown v.seen v.store.width n s → IsRebuildable s j f → IsInstallFrom s n j f request → CanAsk v request
can_install v n s j f request known can from = subst (CanAsk v) (sym from.is) (known_fragment v.seen v.store.width n s j f from.bytes known can.has from.rebuilt)

-- an inspection, and then a deed
pub takes_later : (u v w : Shows) (deed : Option Deed) → Takes u None v → Takes v deed w → Takes u deed w
takes_later u v w deed first then =
    let between : (u.acts ++ first.others) ++ [] ≡ u.acts ++ first.others = append-nil (u.acts ++ first.others) in
    let all : v.acts ++ then.others ≡ u.acts ++ (first.others ++ then.others) = ap (λ l. l ++ then.others) (first.acts ∙ between) ∙ append_assoc u.acts first.others then.others in
    record {
      stays = (then.stays.0 ∙ first.stays.0, then.stays.1 ∙ first.stays.1, then.stays.2 ∙ first.stays.2);
      others = first.others ++ then.others;
      does = subst (λ (u : Which × List Act). IfSome deed (Does u.0.width u.0.limit (standing_of u.1))) (λ i. (first.stays.0 i, all i)) then.does;
      acts = then.acts ∙ (λ i. all i ++ act_if (first.stays.1 i) deed);
      did = then.did ∙ (λ i. (first.did ∙ append-nil u.did) i ++ number_if (length (all i)) (act_if (first.stays.1 i) deed));
      agrees = then.agrees;
      lone = λ alone. (λ i. first.lone alone i ++ then.lone (first.stays.2 ∙ alone) i);
    }

-- an inspection, and then the repair
pub looks_then_called : (u v w : Shows) (n : List ℕ) (j f : ℕ) (r : Result Answer Fault) → Takes u None v → Called v (repair n j f) r w → Called u (repair n j f) r w
looks_then_called u v w n j f r first then = record {
  takes = takes_later u v w (deed_of (repair n j f) r) first then.takes;
  no_memory = then.no_memory;
  outside = λ long. absurd (subst (λ (s : Result Answer Fault). IfSome (deed_of (repair n j f) s) (Does v.store.width v.store.limit (standing_of (v.acts ++ then.takes.others)))) long then.takes.does);
}

-- an inspection, and then the install
pub looks_then_installed : (u v w : Shows) (n : List ℕ) (s : Sealed) (j f : ℕ) (request : Request) (r : Result Answer Fault) → CanMend u n j f s v → IsInstallFrom s n j f request → Called v (operation_of request) r w → Called u (repair n j f) r w
looks_then_installed u v w n s j f request r first from then = looks_then_called u v w n j f r first.takes (subst (λ (q : Request). Called v (operation_of q) r w) from.is then)
