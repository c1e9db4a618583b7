-- The drawers of a mend's workers, given out and joined again.
use Rattle.std.proofs.Common.{◌≡◌, ⊎_elim, ℕ, ◌+◌, ◌-◌, ◌/◌, ◌^◌, ◌≤◌, ◌||◌, Bool, true, false, List, [], ◌∷◌, ◌++◌, length, All, Ok, Err, append_assoc, append-nil, subst, sym, ap, refl, ◌∙◌, arith, length-append}
use Rattle.std.proofs.lemmas.List.Elements.{All-append, All-cons, All-nil}
use Rattle.std.proofs.lemmas.List.Sums.{sum_by-cons, sum_by_push}
use Rattle.std.proofs.lemmas.List.{map-append}
use Rattle.std.proofs.lemmas.List.Folds.{list_any-append}
use Rattle.std.specs.List.{list_any}
use Rattle.gate.specs.Places.{TableId, times}
use Rattle.shared.specs.Passes.{Shows, Which}
use Rattle.book.specs.declared.plan.Item.{Item}
use Rattle.mender.specs.declared.done.Done.{Done}
use Rattle.mender.specs.Drawn.{DrawerState, DrewFirstNumbers, AreFirst}
use Rattle.mender.specs.Gathered.{IsComplete}
use Rattle.mender.specs.Worked.{Draws, Finished}
use Rattle.mender.specs.Mended.{EndedWorker, HasFinished, joined_drawer, results_of, with_hand}
use Rattle.mender.proofs.Counts.{once_below-out}
use Rattle.mender.proofs.Mended.{complete_joined, joined-snoc, results_of-snoc}
use Rattle.rounds.specs.Rounds.{AllBelongTo, DidAll, Effect}
use Rattle.rounds.specs.Errands.{DidMend, DidPart, FitsPart}
use Rattle.rounds.specs.declared.kinds.Mended.{Mended}
use Rattle.rounds.specs.declared.kinds.Mended.TheVariants.{Paused, Worked}
use Rattle.rounds.specs.declared.kinds.Mending.{Mending}
use Rattle.rounds.specs.declared.kinds.Returned.{Returned}
use Rattle.rounds.specs.declared.work.Ran.{Ran}
use Rattle.rounds.specs.declared.work.Work.{Work}
use Rattle.rounds.specs.Pools.{AreWorkers, passes_of, outcomes_of}
use Rattle.play.specs.Mends.{IsMendingPart, AreMenders, AreForRow, FinishedIfDone, AreBack, IsEnded, AreEnded, given_to_all, given_before, results_in, left_with, left_of, all_left, is_stopped, drawn_by, AreDrawnOnce}

-- ---- the parts are given out
-- one worker more
pub menders-more : (plan : List Item) (tickets : TableId) (works : List (Work Mending)) (w : Work Mending) → AreMenders plan tickets works → IsMendingPart plan tickets w.errand
    → AreMenders plan tickets (works ++ w ∷ [])
menders-more plan tickets [] w all last = (last, tt)
menders-more plan tickets (x ∷ works) w all last = (all.0, menders-more plan tickets works w all.1 last)

pub rows-more : (row : ℕ) (works : List (Work Mending)) (w : Work Mending) → AreForRow row works → w.errand.row ≡ row → AreForRow row (works ++ w ∷ [])
rows-more row [] w all last = (last, tt)
rows-more row (x ∷ works) w all last = (all.0, rows-more row works w all.1 last)

pub given-more : (works : List (Work Mending)) (w : Work Mending) → given_to_all (works ++ w ∷ []) ≡ given_to_all works + w.errand.drawer.allowance
given-more works w = sum_by_push (λ (x : Work Mending). x.errand.drawer.allowance) works w

-- they are done by passes of the store
pub menders-of : (store : Which) (plan : List Item) (tickets : TableId) (works : List (Work Mending)) → AreWorkers store (passes_of works) → AreMenders plan tickets works → AllBelongTo FitsPart store works
menders-of store plan tickets [] all are = tt
menders-of store plan tickets (w ∷ works) all are = ((all.0.0, are.0.drawer_of ∙ sym are.0.tickets_are), menders-of store plan tickets works all.1 are.1)

-- half of a drawer's allowance goes to one worker more
pub shares-more : (works : List (Work Mending)) (w : Work Mending) (old new : ℕ) → old + given_to_all works ≡ 2 ^ 40 → new ≡ old - old / 2 → w.errand.drawer.allowance ≡ old / 2
    → new + given_to_all (works ++ w ∷ []) ≡ 2 ^ 40
shares-more works w old new shares kept given =
    let more = given-more works w in
    omega arith

pub half-left : (works : List (Work Mending)) (old new : ℕ) → old + given_to_all works ≡ 2 ^ 40 → new ≡ old - old / 2 → new ≤ 2 ^ 39
half-left works old new shares kept = omega arith

pub ended-more : (os : List Returned) (o : Returned) → AreEnded os → IsEnded o → AreEnded (os ++ o ∷ [])
ended-more [] o all last = (last, tt)
ended-more (x ∷ os) o all last = (all.0, ended-more os o all.1 last)

-- ---- the workers are back
-- a worker's drawer is of these tickets still, with its allowance and its draws making up what it was given
record Holds (tickets : TableId) (given : ℕ) (drawer : DrawerState) : Type 0 where
  pub drawer_of : drawer.tickets ≡ tickets
  pub shares : drawer.allowance + length drawer.drawn ≡ given

holds-draws : (tickets : TableId) (old new : DrawerState) (numbers : List ℕ) → Draws old numbers new → old.tickets ≡ tickets → old.drawn ≡ [] → Holds tickets old.allowance new
holds-draws tickets old new numbers draws of none =
    let fewer = draws.allowance in
    let drawn : length new.drawn ≡ length (old.drawn ++ numbers) = ap length draws.drawn in
    let more = length-append old.drawn numbers in
    let nothing : length old.drawn ≡ 0 = ap length none in
    record { drawer_of = draws.tickets ∙ of; shares = omega arith }

holds-same : (tickets : TableId) (old new : DrawerState) → new ≡ old → old.tickets ≡ tickets → old.drawn ≡ [] → Holds tickets old.allowance new
holds-same tickets old new same of none =
    let nothing : length old.drawn ≡ 0 = ap length none in
    subst (Holds tickets old.allowance) (sym same) (record { drawer_of = of; shares = omega arith })

holds-finished : (plan : List Item) (tickets : TableId) (old new : DrawerState) (done : List Done) → Finished plan old new done → old.tickets ≡ tickets → old.drawn ≡ []
    → Holds tickets old.allowance new
holds-finished plan tickets old new done finished of none = ⊎_elim
    (λ t. holds-draws tickets old new _ t.0.draws of none)
    (λ t. holds-draws tickets old new _ t.2.draws of none)
    finished

-- a worker is back, with what it was given
record Returns (plan : List Item) (tickets : TableId) (given : ℕ) (drawer : DrawerState) (mended : Mended) : Type 0 where
  pub back : (drawer.tickets ≡ tickets) × FinishedIfDone plan drawer mended
  pub shares : (left_with drawer (results_in mended)).given ≡ given

part-back : (plan : List Item) (tickets : TableId) (v : Shows) (m : Mending) (drawer : DrawerState) (mended : Mended) (w : Shows) → DidPart v m drawer mended w → IsMendingPart plan tickets m
    → Returns plan tickets m.drawer.allowance drawer mended
part-back plan tickets v m drawer Paused w did is =
    let holds = holds-same tickets m.drawer drawer did.0 is.drawer_of is.none in
    record { back = (holds.drawer_of, tt); shares = omega (arith, holds.shares) }
part-back plan tickets v m drawer (Worked (Err stop)) w did is =
    let holds = holds-draws tickets m.drawer drawer _ did.0.3.draws is.drawer_of is.none in
    record { back = (holds.drawer_of, tt); shares = omega (arith, holds.shares) }
part-back plan tickets v m drawer (Worked (Ok done)) w did is =
    let finished = subst (λ (p : List Item). Finished p m.drawer drawer done.items) is.plan_is did.0 in
    let holds = holds-finished plan tickets m.drawer drawer done.items finished is.drawer_of is.none in
    let left : HasFinished plan (left_with drawer done.items) = record { old = m.drawer; given = sym holds.shares; none = is.none; finished = finished } in
    record { back = (holds.drawer_of, left); shares = omega (arith, holds.shares) }

-- each worker gives back one outcome
pub did-many : {E O : Type 0} (did : Effect E O) (works : List (Work E)) (rans : List (Ran O)) → DidAll did works rans → length works ≡ length rans
did-many is [] [] did = refl
did-many is [] (r ∷ rans) did = absurd did
did-many is (w ∷ works) [] did = absurd did
did-many is (w ∷ works) (r ∷ rans) did = let rest = did-many is works rans did.1 in omega arith

-- all are, with what they were given
pub menders-back : (plan : List Item) (tickets : TableId) (works : List (Work Mending)) (rans : List (Ran Returned)) → AreMenders plan tickets works → DidAll DidMend works rans
    → AreBack plan tickets (outcomes_of rans) × (given_before (outcomes_of rans) ≡ given_to_all works)
menders-back plan tickets [] [] all did = (tt, refl)
menders-back plan tickets [] (r ∷ rans) all did = absurd did
menders-back plan tickets (w ∷ works) [] all did = absurd did
menders-back plan tickets (w ∷ works) (r ∷ rans) all did =
    let one = part-back plan tickets w.pass w.errand r.outcome.drawer r.outcome.mended r.pass did.0 all.0 in
    let rest = menders-back plan tickets works rans all.1 did.1 in
    let before = sum_by-cons (λ (left : EndedWorker). left.given) (left_of r.outcome) (all_left (outcomes_of rans)) in
    let own = one.shares in
    let others = rest.1 in
    let given = sum_by-cons (λ (x : Work Mending). x.errand.drawer.allowance) w works in
    ((one.back, rest.0), omega arith)

-- ---- the drawers are joined
abbrev pub back_with : DrawerState → Mended → Returned
back_with drawer mended = record { drawer = drawer; mended = mended }

pool-more : (outcomes : List Returned) (o : Returned) → all_left (outcomes ++ o ∷ []) ≡ all_left outcomes ++ left_of o ∷ []
pool-more outcomes o = map-append left_of outcomes (o ∷ [])

-- a drawer that took in the drawers of these outcomes, and knows of its draws
pub record HasJoined (first : DrawerState) (outcomes : List Returned) (drawer : DrawerState) : Type 0 where
  pub joins : drawer ≡ joined_drawer first (all_left outcomes)
  pub whole : DrewFirstNumbers drawer

pub joined-none : (first : DrawerState) → first.drawn ≡ [] → HasJoined first [] first
joined-none first none =
    let nothing : length first.drawn ≡ 0 = ap length none in
    record { joins = refl; whole = λ full n. ap (times n) none ∙ sym (once_below-out n (length first.drawn) (omega arith)) }

pub joined-more : (first : DrawerState) (outcomes : List Returned) (old new other : DrawerState) (m : Mended) → HasJoined first outcomes old → new ≡ with_hand old other → DrewFirstNumbers new
    → HasJoined first (outcomes ++ back_with other m ∷ []) new
joined-more first outcomes old new other m has is whole =
    let left : EndedWorker = left_with other (results_in m) in
    record {
      joins = is ∙ ap (λ (hand : DrawerState). with_hand hand other) has.joins ∙ sym (joined-snoc first (all_left outcomes) left) ∙ sym (ap (joined_drawer first) (pool-more outcomes (back_with other m)));
      whole = whole;
    }

-- these are the results of all, and none stopped
pub record AreAll (plan : List Item) (outcomes : List Returned) (all : List Done) : Type 0 where
  pub finished : All (HasFinished plan) (all_left outcomes)
  pub results : all ≡ results_of (all_left outcomes)

pub all-none : (plan : List Item) → AreAll plan [] []
all-none plan = record { finished = All-nil (HasFinished plan); results = refl }

-- one more that did not stop
pub all-more : (plan : List Item) (outcomes : List Returned) (all more : List Done) (other : DrawerState) (m : Mended) → AreAll plan outcomes all
    → HasFinished plan (left_with other (results_in m)) → more ≡ all ++ results_in m → AreAll plan (outcomes ++ back_with other m ∷ []) more
all-more plan outcomes all more other m are one is =
    let left : EndedWorker = left_with other (results_in m) in
    let pool = pool-more outcomes (back_with other m) in
    record {
      finished = subst (All (HasFinished plan)) (sym pool) (All-append (HasFinished plan) (all_left outcomes) (left ∷ []) are.finished (All-cons (HasFinished plan) left [] one (All-nil (HasFinished plan))));
      results = is ∙ ap (λ (xs : List Done). xs ++ left.done) are.results ∙ sym (results_of-snoc (all_left outcomes) left) ∙ sym (ap results_of pool);
    }

-- Their results are complete
pub mend-complete : (plan : List Item) (first drawer : DrawerState) (outcomes : List Returned) (all : List Done) → first.drawn ≡ [] → first.allowance + given_before outcomes ≡ 2 ^ 40
    → first.allowance + length plan ≤ 2 ^ 40 → HasJoined first outcomes drawer → AreAll plan outcomes all → IsComplete plan all
mend-complete plan first drawer outcomes all none shares room has are = subst (IsComplete plan) (sym are.results)
    (complete_joined plan first (all_left outcomes) none shares room are.finished (subst DrewFirstNumbers has.joins has.whole))

-- ---- all draws
joined-drawn : (first : DrawerState) (os : List Returned) → (joined_drawer first (all_left os)).drawn ≡ first.drawn ++ drawn_by os
joined-drawn first [] = sym (append-nil first.drawn)
joined-drawn first (o ∷ os) = joined-drawn (with_hand first o.drawer) os ∙ append_assoc first.drawn o.drawer.drawn (drawn_by os)

joined-shares : (first : DrawerState) (os : List Returned) → (joined_drawer first (all_left os)).allowance + length (joined_drawer first (all_left os)).drawn ≡ first.allowance + length first.drawn + given_before os
joined-shares first [] = omega arith
joined-shares first (o ∷ os) =
    let rest = joined-shares (with_hand first o.drawer) os in
    let both = length-append first.drawn o.drawer.drawn in
    let sum = sum_by-cons (λ (left : EndedWorker). left.given) (left_of o) (all_left os) in
    omega (arith, rest, both, sum)

-- the tickets that were drawn are the first ones, each once
pub drawn-once : (first drawer : DrawerState) (outcomes : List Returned) → first.drawn ≡ [] → first.allowance + given_before outcomes ≡ 2 ^ 40 → HasJoined first outcomes drawer → AreDrawnOnce outcomes
drawn-once first drawer outcomes none shares has =
    let nothing : length first.drawn ≡ 0 = ap length none in
    let drawn : drawer.drawn ≡ drawn_by outcomes = ap (λ (h : DrawerState). h.drawn) has.joins ∙ joined-drawn first outcomes ∙ ap (λ l. l ++ drawn_by outcomes) none in
    let all = joined-shares first outcomes in
    let same = ap (λ (h : DrawerState). h.allowance + length h.drawn) has.joins in
    subst (λ l. AreFirst l (length l)) drawn (has.whole (omega (arith, all, same, shares, nothing)))

pub or-none : (b : Bool) → (b || false) ≡ b
or-none true = refl
or-none false = refl

pub or-one : (b : Bool) → (b || true) ≡ true
or-one true = refl
or-one false = refl

-- whether one stopped
pub stopped-more : (outcomes : List Returned) (o : Returned) (was is : Bool) → was ≡ list_any is_stopped outcomes → is ≡ (was || is_stopped o) → is ≡ list_any is_stopped (outcomes ++ o ∷ [])
stopped-more outcomes o was is before more = more ∙ ap (λ b. b || is_stopped o) before ∙ sym (list_any-append is_stopped outcomes (o ∷ []) ∙ ap (λ b. list_any is_stopped outcomes || b) (or-none (is_stopped o)))
