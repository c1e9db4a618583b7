-- A mend by workers who finished is complete, once their drawers are joined again.
use Rattle.std.proofs.Common.{◌≡◌, ◌⊎◌, ℕ, ◌+◌, ◌<◌, ◌≤◌, ◌^◌, List, [], ◌∷◌, ◌++◌, length, All, sum_by, refl, ap, sym, subst, ◌∙◌, inl, inr, ⊎_elim, arith, append_assoc, append-nil, length-append}
use mathlib.Core.Logic.{dite}
use native.Mathlib.Decide.{dec_lt}
use Rattle.std.proofs.lemmas.List.Elements.{All-append, All-nil, All-head, All-tail}
use Rattle.std.proofs.lemmas.List.Sums.{sum_by-cons, fold_push}
use Rattle.std.proofs.lemmas.List.{flat_map_more}
use Rattle.book.specs.declared.plan.Item.{Item}
use Rattle.gate.specs.Places.{times}
use Rattle.gate.proofs.Lists.{times-append, times-one}
use Rattle.mender.specs.declared.done.Done.{Done}
use Rattle.mender.specs.Drawn.{DrawerState, DrewFirstNumbers}
use Rattle.mender.specs.Gathered.{tickets_of, IsOfPlan, IsComplete}
use Rattle.mender.specs.Worked.{Draws, Worked, Finished}
use Rattle.mender.specs.Mended.{EndedWorker, with_hand, joined_drawer, results_of, HasFinished, HasResults}
use Rattle.mender.proofs.Counts.{once_below-in, once_below-out}
use Rattle.mender.proofs.Judged.{tickets-append, none_past, here_one, else_none}

-- nothing was drawn, and nothing done
pub no_results : (plan : List Item) (hand : DrawerState) → hand.drawn ≡ [] → HasResults plan hand []
no_results plan hand none = record { of_plan = All-nil (IsOfPlan plan); each = λ n below. sym (ap (times n) none) }

-- a worker went on, and drew no other number below the plan's length
worked_on : (plan : List Item) (old new : DrawerState) (before done : List Done) (others : List ℕ) → HasResults plan old before → Worked plan old new done others
    → ((n : ℕ) → n < length plan → times n others ≡ 0) → HasResults plan new (before ++ done)
worked_on plan old new before done others had w past = record {
  of_plan = All-append (IsOfPlan plan) before done had.of_plan w.of_plan;
  each = λ n below.
      let so_far = had.each n below in
      let none = past n below in
      let drawn : times n new.drawn ≡ times n (old.drawn ++ (tickets_of done ++ others)) = ap (times n) w.draws.drawn in
      let one = times-append n old.drawn (tickets_of done ++ others) in
      let two = times-append n (tickets_of done) others in
      let all = tickets-append before done n in
      omega arith;
}

one_past : (m n count : ℕ) → n < count → count ≤ m → times n (m ∷ []) ≡ 0
one_past m n count below past = times-one n m ∙ else_none m n (λ same. omega arith)

-- a worker finished
pub finished_on : (plan : List Item) (old new : DrawerState) (before done : List Done) → HasResults plan old before → Finished plan old new done → HasResults plan new (before ++ done)
finished_on plan old new before done had finished = ⊎_elim
    (λ t. worked_on plan old new before done [] had t.0 (λ n below. refl))
    (λ t. worked_on plan old new before done (t.0 ∷ []) had t.2 (λ n below. one_past t.0 n (length plan) below t.1))
    finished

-- two drawers are joined, and their results put together
pub results_joined : (plan : List Item) (one other all : DrawerState) (xs ys : List Done) → HasResults plan one xs → HasResults plan other ys → all.drawn ≡ one.drawn ++ other.drawn
    → HasResults plan all (xs ++ ys)
results_joined plan one other all xs ys a b drawn = record {
  of_plan = All-append (IsOfPlan plan) xs ys a.of_plan b.of_plan;
  each = λ n below.
      let mine = a.each n below in
      let theirs = b.each n below in
      let both : times n all.drawn ≡ times n (one.drawn ++ other.drawn) = ap (times n) drawn in
      let sum = times-append n one.drawn other.drawn in
      let results = tickets-append xs ys n in
      omega arith;
}

-- Where no other drawer may draw or has drawn, and as many numbers were drawn as the plan is long, the results are complete
pub complete_whole : (plan : List Item) (hand : DrawerState) (done : List Done) → HasResults plan hand done → DrewFirstNumbers hand → hand.allowance + length hand.drawn ≡ 2 ^ 40
    → length plan ≤ length hand.drawn → IsComplete plan done
complete_whole plan hand done has whole full many = (
  has.of_plan,
  λ n. dite (dec_lt n (length plan))
      (λ below. has.each n below ∙ (whole full n ∙ (once_below-in n (length hand.drawn) (omega arith) ∙ sym (once_below-in n (length plan) below))))
      (λ past. none_past plan done n has.of_plan (omega arith) ∙ sym (once_below-out n (length plan) (omega arith))),
)

-- a number past the plan's end was drawn, so all below its length were
pub many_past : (plan : List Item) (hand : DrawerState) (n : ℕ) → DrewFirstNumbers hand → hand.allowance + length hand.drawn ≡ 2 ^ 40 → length plan ≤ n → 0 < times n hand.drawn
    → length plan ≤ length hand.drawn
many_past plan hand n whole full past drawn = dite (dec_lt n (length hand.drawn))
    (λ below. omega arith)
    (λ not_below. let is = whole full n in let none = once_below-out n (length hand.drawn) (omega arith) in absurd (omega arith))

-- ---- the drawers of all workers
-- one worker more was joined
pub joined-snoc : (first : DrawerState) (crew : List EndedWorker) (left : EndedWorker) → joined_drawer first (crew ++ left ∷ []) ≡ with_hand (joined_drawer first crew) left.drawer
joined-snoc first crew left = fold_push (λ (hand : DrawerState) (l : EndedWorker). with_hand hand l.drawer) first crew left

pub results_of-snoc : (crew : List EndedWorker) (left : EndedWorker) → results_of (crew ++ left ∷ []) ≡ results_of crew ++ left.done
results_of-snoc crew left = sym (flat_map_more (λ (l : EndedWorker). l.done) [] crew left)

joined_results : (plan : List Item) (hand : DrawerState) (before : List Done) (crew : List EndedWorker) → HasResults plan hand before → All (HasFinished plan) crew
    → HasResults plan (joined_drawer hand crew) (before ++ results_of crew)
joined_results plan hand before [] has all = subst (HasResults plan hand) (sym (append-nil before)) has
joined_results plan hand before (left ∷ crew) has all =
    let one = All-head (HasFinished plan) left crew all in
    let theirs : HasResults plan left.drawer left.done = finished_on plan one.old left.drawer [] left.done (no_results plan one.old one.none) one.finished in
    let both : HasResults plan (with_hand hand left.drawer) (before ++ left.done) = results_joined plan hand left.drawer (with_hand hand left.drawer) before left.done has theirs refl in
    subst (HasResults plan (joined_drawer (with_hand hand left.drawer) crew)) (append_assoc before left.done (results_of crew))
    (joined_results plan (with_hand hand left.drawer) (before ++ left.done) crew both (All-tail (HasFinished plan) left crew all))

joined_keeps : (hand : DrawerState) (crew : List EndedWorker) (n : ℕ) → times n hand.drawn ≤ times n (joined_drawer hand crew).drawn
joined_keeps hand [] n = omega arith
joined_keeps hand (left ∷ crew) n =
    let more = joined_keeps (with_hand hand left.drawer) crew n in
    let both = times-append n hand.drawn left.drawer.drawn in
    omega arith

-- draws leave the sum of the allowance and what was drawn
draws_share : (old new : DrawerState) (numbers : List ℕ) → Draws old numbers new → new.allowance + length new.drawn ≡ old.allowance + length old.drawn
draws_share old new numbers draws =
    let fewer = draws.allowance in
    let drawn : length new.drawn ≡ length (old.drawn ++ numbers) = ap length draws.drawn in
    let more = length-append old.drawn numbers in
    omega arith

finished_share : (plan : List Item) (old new : DrawerState) (done : List Done) → Finished plan old new done → new.allowance + length new.drawn ≡ old.allowance + length old.drawn
finished_share plan old new done finished = ⊎_elim
    (λ t. draws_share old new (tickets_of done ++ []) t.0.draws)
    (λ t. draws_share old new (tickets_of done ++ t.0 ∷ []) t.2.draws)
    finished

-- the allowances at first, with what was drawn
joined_share : (plan : List Item) (hand : DrawerState) (crew : List EndedWorker) → All (HasFinished plan) crew
    → (joined_drawer hand crew).allowance + length (joined_drawer hand crew).drawn ≡ hand.allowance + length hand.drawn + sum_by (λ (left : EndedWorker). left.given) crew
joined_share plan hand [] all = omega arith
joined_share plan hand (left ∷ crew) all =
    let more = joined_share plan (with_hand hand left.drawer) crew (All-tail (HasFinished plan) left crew all) in
    let sum = sum_by-cons (λ (l : EndedWorker). l.given) left crew in
    let both = length-append hand.drawn left.drawer.drawn in
    let one = All-head (HasFinished plan) left crew all in
    let own = finished_share plan one.old left.drawer left.done one.finished in
    let given = one.given in
    let nothing : length one.old.drawn ≡ 0 = ap length one.none in
    omega arith

-- a number past the plan's end was drawn, or all allowances but the first were used up
abbrev Ends : List Item → DrawerState → DrawerState → Type 0
Ends plan first all = ((n : ℕ) × (length plan ≤ n) × (0 < times n all.drawn)) ⊎ (all.allowance ≡ first.allowance)

-- the last number of a worker's draws is among them
past_drawn : (plan : List Item) (old new : DrawerState) (done : List Done) (n : ℕ) → Worked plan old new done (n ∷ []) → 0 < times n new.drawn
past_drawn plan old new done n w =
    let drawn : times n new.drawn ≡ times n (old.drawn ++ (tickets_of done ++ n ∷ [])) = ap (times n) w.draws.drawn in
    let one = times-append n old.drawn (tickets_of done ++ n ∷ []) in
    let two = times-append n (tickets_of done) (n ∷ []) in
    let here = times-one n n ∙ here_one n in
    omega arith

crew_ends : (plan : List Item) (hand : DrawerState) (crew : List EndedWorker) → All (HasFinished plan) crew → Ends plan hand (joined_drawer hand crew)
crew_ends plan hand [] all = inr refl
crew_ends plan hand (left ∷ crew) all =
    let one = All-head (HasFinished plan) left crew all in
    let next : DrawerState = with_hand hand left.drawer in ⊎_elim
    (λ t. ⊎_elim
    (λ u. inl u)
    (λ same. let none = t.1 in inr (omega arith))
    (crew_ends plan next crew (All-tail (HasFinished plan) left crew all)))
    (λ t.
    let own = past_drawn plan one.old left.drawer left.done t.0 t.2 in
    let both = times-append t.0 hand.drawn left.drawer.drawn in
    let kept = joined_keeps next crew t.0 in
    inl (t.0, t.1, omega arith))
    one.finished

-- Workers finished with drawers that were split from a first one before anything was drawn, and all are joined again. What the first one kept leaves at least as many
-- numbers as the plan is long. Then their results are complete
pub complete_joined : (plan : List Item) (first : DrawerState) (crew : List EndedWorker) → first.drawn ≡ [] → first.allowance + sum_by (λ (left : EndedWorker). left.given) crew ≡ 2 ^ 40
    → first.allowance + length plan ≤ 2 ^ 40 → All (HasFinished plan) crew → DrewFirstNumbers (joined_drawer first crew) → IsComplete plan (results_of crew)
complete_joined plan first crew none shares room all whole =
    let has = joined_results plan first [] crew (no_results plan first none) all in
    let nothing : length first.drawn ≡ 0 = ap length none in
    let share = joined_share plan first crew all in
    let full : (joined_drawer first crew).allowance + length (joined_drawer first crew).drawn ≡ 2 ^ 40 = omega arith in
    complete_whole plan (joined_drawer first crew) (results_of crew) has whole full (⊎_elim
    (λ t. many_past plan (joined_drawer first crew) t.0 whole full t.1 t.2)
    (λ same. omega arith)
    (crew_ends plan first crew all))

-- what a worker drew, the joined drawer drew
pub drawn_joined : (hand : DrawerState) (before : List EndedWorker) (left : EndedWorker) (after : List EndedWorker) (n : ℕ) → times n left.drawer.drawn ≤ times n (joined_drawer hand (before ++ left ∷ after)).drawn
drawn_joined hand [] left after n =
    let both = times-append n hand.drawn left.drawer.drawn in
    let kept = joined_keeps (with_hand hand left.drawer) after n in
    omega arith
drawn_joined hand (other ∷ before) left after n = drawn_joined (with_hand hand other.drawer) before left after n

-- The same, where one of the workers met a number past the plan's end
pub complete_past : (plan : List Item) (first : DrawerState) (crew : List EndedWorker) → first.drawn ≡ [] → first.allowance + sum_by (λ (left : EndedWorker). left.given) crew ≡ 2 ^ 40
    → All (HasFinished plan) crew → DrewFirstNumbers (joined_drawer first crew) → (n : ℕ) → length plan ≤ n → 0 < times n (joined_drawer first crew).drawn → IsComplete plan (results_of crew)
complete_past plan first crew none shares all whole n past drawn =
    let has = joined_results plan first [] crew (no_results plan first none) all in
    let nothing : length first.drawn ≡ 0 = ap length none in
    let share = joined_share plan first crew all in
    let full : (joined_drawer first crew).allowance + length (joined_drawer first crew).drawn ≡ 2 ^ 40 = omega arith in
    complete_whole plan (joined_drawer first crew) (results_of crew) has whole full (many_past plan (joined_drawer first crew) n whole full past drawn)
