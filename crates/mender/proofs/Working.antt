-- What a worker did, step by step.
use Rattle.std.proofs.Common.{◌≡◌, ℕ, zero, suc, ◌-◌, ◌<◌, List, [], ◌∷◌, ◌++◌, length, map, take, All, get_or, slice_get, Some, Ok, Err, refl, ap, sym, subst, ◌∙◌, arith, append_assoc, append-nil, length-append}
use Rattle.std.proofs.lemmas.List.{map-append, length-map}
use Rattle.std.proofs.lemmas.List.Elements.{All-append, All-nil}
use Rattle.book.specs.declared.plan.Item.{Item}
use Rattle.book.specs.Notes.{note_of}
use Rattle.book.specs.Serial.{called, full}
use Rattle.gate.specs.Places.{times}
use Rattle.gate.proofs.Lists.{times-append}
use Rattle.mender.specs.declared.done.Done.{Done}
use Rattle.std.proofs.lemmas.Option.{slice_get-get_or, slice_get_within}
use Rattle.std.specs.List.Sorted.{IsStrictlyIncreasing}
use Rattle.mender.specs.Drawn.{DrawerState, IsIntact, IsSole}
use Rattle.mender.specs.Gathered.{tickets_of, IsOfPlan}
use Rattle.mender.specs.Worked.{repair_of, replies_of, ask_of, asks_done, AreMended, AreInOrder, Draws, Worked, Stopped, StoppedFull}
use Rattle.history.specs.Step.{Operation}
use Rattle.sealed.specs.declared.fault.Fault.{Fault}
use Rattle.sealed.specs.declared.fault.Fault.TheVariants.{JournalFull}
use Rattle.shared.specs.Passes.{Shows}
use Rattle.shared.specs.Calls.{Called}
use Rattle.shared.specs.Serving.{Serves}
use Rattle.shared.proofs.Serving.{serves_append, serves_longer, serves_one, serves_refused}
use Rattle.requests.specs.declared.jobs.Reply.TheVariants.{Made, Refused}
use Rattle.mender.proofs.Counts.{rises_none, rises-push}
use Rattle.mender.proofs.Judged.{all_one, all_right, one_more}

pub begun : (plan : List Item) (hand : DrawerState) → Worked plan hand hand [] []
begun plan hand = record {
  draws = record { tickets = refl; allowance = omega arith; drawn = sym (append-nil hand.drawn) };
  of_plan = All-nil (IsOfPlan plan);
  once = λ n. omega arith;
  rises = rises_none;
}

-- a number more was drawn
pub drew : (plan : List Item) (old new new' : DrawerState) (done : List Done) (n : ℕ) → Worked plan old new done [] → 0 < new.allowance
    → new' ≡ record new { allowance = new.allowance - 1; drawn = new.drawn ++ n ∷ [] } → All (λ m. m < n) new.drawn → Worked plan old new' done (n ∷ [])
drew plan old new new' done n w some_left is above = subst (λ h. Worked plan old h done (n ∷ [])) (sym is) record {
  draws = record {
    tickets = w.draws.tickets;
    allowance =
        let before = w.draws.allowance in
        let a = length-append (tickets_of done) [] in
        let b = length-append (tickets_of done) (n ∷ []) in
        omega arith;
    drawn = ap (λ l. l ++ n ∷ []) (w.draws.drawn ∙ ap (λ l. old.drawn ++ l) (append-nil (tickets_of done))) ∙ append_assoc old.drawn (tickets_of done) (n ∷ []);
  };
  of_plan = w.of_plan;
  once = w.once;
  rises =
      let drawn : All (λ m. m < n) (tickets_of done ++ []) = all_right (λ m. m < n) old.drawn (tickets_of done ++ []) (subst (All (λ m. m < n)) w.draws.drawn above) in
      rises-push (tickets_of done) n (subst IsStrictlyIncreasing (append-nil (tickets_of done)) w.rises) (subst (All (λ m. m < n)) (append-nil (tickets_of done)) drawn);
}

-- a number that the drawer had not drawn has no result
pub none_yet : (plan : List Item) (old new : DrawerState) (done : List Done) (n : ℕ) → Worked plan old new done [] → times n new.drawn ≡ 0 → times n (tickets_of done) ≡ 0
none_yet plan old new done n w fresh =
    let all : times n new.drawn ≡ times n (old.drawn ++ (tickets_of done ++ [])) = ap (times n) w.draws.drawn in
    let one = times-append n old.drawn (tickets_of done ++ []) in
    let two = times-append n (tickets_of done) [] in
    omega arith

-- the ticket in hand has its result
pub did : (plan : List Item) (old new : DrawerState) (done : List Done) (d : Done) → Worked plan old new done (d.ticket ∷ []) → IsOfPlan plan d → times d.ticket (tickets_of done) ≡ 0
    → Worked plan old new (done ++ d ∷ []) []
did plan old new done d w of_plan none =
    let tickets : tickets_of (done ++ d ∷ []) ++ [] ≡ tickets_of done ++ d.ticket ∷ [] = append-nil (tickets_of (done ++ d ∷ [])) ∙ map-append (λ e. e.ticket) done (d ∷ []) in record {
      draws = subst (λ l. Draws old l new) (sym tickets) w.draws;
      of_plan = All-append (IsOfPlan plan) done (d ∷ []) w.of_plan (all_one (IsOfPlan plan) d of_plan);
      once = λ n. one_more done d n (w.once n) none;
      rises = subst IsStrictlyIncreasing (sym tickets) w.rises;
    }

pub found_at : (xs ys : List Item) (n : ℕ) (it : Item) → ys ≡ xs → n < length ys → it ≡ get_or ys n it → slice_get xs n ≡ Some it
found_at xs ys n it same lt there = subst (λ l. slice_get l n ≡ Some it) same (slice_get-get_or ys n it lt ∙ ap Some (sym there))

-- a ticket that was drawn just now, with the plan's item there, and no result yet
pub record InHand (plan : List Item) (old new : DrawerState) (done : List Done) (n : ℕ) (it : Item) : Type 0 where
  pub there : slice_get plan n ≡ Some it
  pub none : times n (tickets_of done) ≡ 0
  pub after : Worked plan old new done (n ∷ [])

pub in_hand : (plan ys : List Item) (old new new' : DrawerState) (done : List Done) (n : ℕ) (it : Item) → Worked plan old new done [] → 0 < new.allowance
    → new' ≡ record new { allowance = new.allowance - 1; drawn = new.drawn ++ n ∷ [] } → times n new.drawn ≡ 0 → All (λ m. m < n) new.drawn → ys ≡ plan → n < length ys → it ≡ get_or ys n it → InHand plan old new' done n it
in_hand plan ys old new new' done n it w some_left is fresh above same lt here = record {
  there = found_at plan ys n it same lt here;
  none = none_yet plan old new done n w fresh;
  after = drew plan old new new' done n w some_left is above;
}

pub stopped : (plan : List Item) (old new : DrawerState) (done items : List Done) (n : ℕ) (it : Item) → InHand plan old new done n it → items ≡ done → Stopped plan old new items
stopped plan old new done items n it h kept = subst (Stopped plan old new) (sym kept) (n, slice_get_within plan n it h.there, h.none, h.after)

asked_many : (done : List Done) → length (replies_of done) ≡ length (asks_done done)
asked_many done = length-map done (λ d. Made d.answer) ∙ sym (length-map done (λ d. ask_of d.item))

-- one repair, answered
pub mended_one : (u w : Shows) (d : Done) → Called u (repair_of d.item) (Ok d.answer) w → AreMended u (d ∷ []) w
mended_one u w d made = serves_one u w (ask_of d.item) (Made d.answer) (called (repair_of d.item) (note_of d.answer)) refl made.takes (λ n start len g asked is. absurd (cc asked))

-- a repair more was made
pub mended_more : (v u w : Shows) (done items items' : List Done) (d : Done) (o : Operation) → AreMended v done u → Called u o (Ok d.answer) w → o ≡ repair_of d.item → items ≡ done → items' ≡ items ++ d ∷ []
    → AreMended v items' w
mended_more v u w done items items' d o mended made same kept pushed =
    let list : done ++ d ∷ [] ≡ items' = sym (pushed ∙ ap (λ l. l ++ d ∷ []) kept) in
    let one : AreMended u (d ∷ []) w = mended_one u w d (subst (λ operation. Called u operation (Ok d.answer) w) same made) in
    let both : Serves v (asks_done done ++ asks_done (d ∷ [])) (replies_of done ++ replies_of (d ∷ [])) w = serves_append v u w (asks_done done) _ (replies_of done) _ (asked_many done) mended one in
    let asks : asks_done done ++ asks_done (d ∷ []) ≡ asks_done (done ++ d ∷ []) = sym (map-append (λ e. ask_of e.item) done (d ∷ [])) in
    let replies : replies_of done ++ replies_of (d ∷ []) ≡ replies_of (done ++ d ∷ []) = sym (map-append (λ e. Made e.answer) done (d ∷ [])) in
    subst (λ l. AreMended v l w) list (subst (λ l. Serves v (asks_done (done ++ d ∷ [])) l w) replies (subst (λ l. Serves v l (replies_of done ++ replies_of (d ∷ [])) w) asks both))

-- the repair of the item in hand met a full journal
pub stopped_full : (plan : List Item) (old new : DrawerState) (v u w : Shows) (done items : List Done) (n : ℕ) (it : Item) (o : Operation) (f : Fault) → AreMended v done u → Called u o (Err f) w → o ≡ repair_of it
    → InHand plan old new done n it → items ≡ done → f ≡ JournalFull → StoppedFull plan old new v items w
stopped_full plan old new v u w done items n it o f mended made same h kept is_full =
    let refused : Called u (repair_of it) (Err JournalFull) w = subst (λ (x : Operation × Fault). Called u x.0 (Err x.1) w) (λ i. (same i, is_full i)) made in
    let one : Serves u (ask_of it ∷ []) (Refused JournalFull ∷ []) w = serves_one u w (ask_of it) (Refused JournalFull) (full (repair_of it)) refl refused.takes (λ n start len g asked is. absurd (cc asked)) in
    subst (λ (l : List Done). StoppedFull plan old new v l w) (sym kept) (record {
      ticket = n;
      item = it;
      there = h.there;
      worked = h.after;
      serves = serves_append v u w (asks_done done) (ask_of it ∷ []) (replies_of done) (Refused JournalFull ∷ []) (asked_many done) mended one;
    })

-- a repair was refused
pub mended_no_more : (v u w : Shows) (done items : List Done) (o : Operation) (f : Fault) → AreMended v done u → Called u o (Err f) w → items ≡ done → AreMended v items w
mended_no_more v u w done items o f mended made kept =
    let longer : Serves v (asks_done done ++ []) (replies_of done) w = serves_longer v u w (asks_done done) [] (replies_of done) (asked_many done) mended (serves_refused u w [] o f made) in
    subst (λ l. AreMended v l w) (sym kept) (subst (λ l. Serves v l (replies_of done) w) (append-nil (asks_done done)) longer)

pub did_more : (plan : List Item) (old new : DrawerState) (done items items' : List Done) (n : ℕ) (d : Done) (it : Item) → InHand plan old new done n it
    → d.ticket ≡ n → d.item ≡ it → items ≡ done → items' ≡ items ++ d ∷ [] → Worked plan old new items' []
did_more plan old new done items items' n d it h ticket same kept pushed =
    let list : items' ≡ done ++ d ∷ [] = pushed ∙ ap (λ l. l ++ d ∷ []) kept in
    let of_plan : IsOfPlan plan d = ap (slice_get plan) ticket ∙ (h.there ∙ ap Some (sym same)) in
    subst (λ l. Worked plan old new l []) (sym list)
    (did plan old new done d (subst (λ m. Worked plan old new done (m ∷ [])) (sym ticket) h.after) of_plan (ap (λ m. times m (tickets_of done)) ticket ∙ h.none))

-- ---- the order of the plan
take_next : (xs : List Item) (n : ℕ) (x : Item) → slice_get xs n ≡ Some x → take (suc n) xs ≡ take n xs ++ x ∷ []
take_next [] n x there = let lt = slice_get_within [] n x there in absurd (omega arith)
take_next (y ∷ ys) zero x there = let same : y ≡ x = cc (there) in ap (λ (z : Item). z ∷ []) same
take_next (y ∷ ys) (suc n) x there = ap (λ (l : List Item). y ∷ l) (take_next ys n x there)

-- a drawer that had all tickets to draw has the next item of the plan in hand
pub order_more : (plan : List Item) (old new : DrawerState) (done items items' : List Done) (n : ℕ) (d : Done) (it : Item) → Worked plan old new done [] → IsIntact old → (IsSole new → n ≡ length new.drawn)
    → slice_get plan n ≡ Some it → d.item ≡ it → items ≡ done → items' ≡ items ++ d ∷ [] → AreInOrder plan done → AreInOrder plan items'
order_more plan old new done items items' n d it w intact next there same kept pushed order =
    let count : length (tickets_of done ++ []) ≡ length done = ap length (append-nil (tickets_of done)) ∙ length-map done (λ e. e.ticket) in
    let drawn : length new.drawn ≡ length (old.drawn ++ (tickets_of done ++ [])) = ap length w.draws.drawn in
    let sum = length-append old.drawn (tickets_of done ++ []) in
    let none : length old.drawn ≡ 0 = ap length intact.1 in
    let all = w.draws.allowance in
    let given = intact.0 in
    let number : n ≡ length new.drawn = next (omega arith) in
    let place : length done ≡ n = omega arith in
    let item : slice_get plan (length done) ≡ Some d.item = ap (slice_get plan) place ∙ (there ∙ ap Some (sym same)) in
    let items_are : map (λ (e : Done). e.item) (done ++ d ∷ []) ≡ take (length done) plan ++ d.item ∷ [] = map-append (λ (e : Done). e.item) done (d ∷ []) ∙ ap (λ (l : List Item). l ++ d.item ∷ []) order in
    let long : suc (length done) ≡ length (done ++ d ∷ []) = omega (arith, length-append done (d ∷ [])) in
    subst (AreInOrder plan) (sym (pushed ∙ ap (λ l. l ++ d ∷ []) kept)) (items_are ∙ sym (take_next plan (length done) d.item item) ∙ ap (λ k. take k plan) long)
