-- Each row's steps among all, and its line.
use Rattle.std.proofs.Common.{◌≡◌, ◌≢◌, ◌∙◌, ℕ, suc, ◌+◌, ◌<◌, ◌≤◌, ◌==◌, nat_lt, Bool, true, false, cond, List, [], ◌∷◌, ◌++◌, length, map, take, Some, All, IsPermutation, refl, ap, sym, subst, arith, append-nil, append_assoc, length-append, sum_by, ne_eqb}
use Rattle.std.specs.Prelude.{slice_get, count_by, codes, decimal, if◌then◌else◌}
use Rattle.std.specs.List.{filter, range_with_len}
use Rattle.std.proofs.lemmas.Bool.Decides.{nat_tests}
use Rattle.std.proofs.lemmas.List.Elements.{All-head, All-tail, filter-append}
use Rattle.std.proofs.lemmas.List.Sorted.{All-permutation, IsPermutation-map, IsPermutation-trans, list_any-IsPermutation, length_permutation, sum_by-IsPermutation, IsPermutation-append_left}
use Rattle.std.proofs.lemmas.List.Sums.{sum_by-cons}
use Rattle.std.proofs.lemmas.Option.{slice_get_within}
use mathlib.Core.List.{IsPrefix, Sublist}
use Rattle.gate.specs.Places.{times, once_later}
use Rattle.gate.proofs.Lists.{prefix_length, once_later-here, once_later-le}
use Rattle.book.specs.Plan.{plan_of}
use Rattle.book.specs.declared.plan.Item.{Item}
use Rattle.book.specs.Serial.{Act, Deed, called, full, too_long, trimmed, Standing, standing_of}
use Rattle.history.specs.Step.{Operation, stat}
use Rattle.history.specs.declared.note.Note.{Note}
use Rattle.mender.specs.Worked.{repair_of}
use Rattle.script.specs.declared.rows.Row.{Row}
use Rattle.script.specs.declared.rows.Task.{Task}
use Rattle.script.specs.declared.rows.Task.TheVariants.{Make, Mend}
use Rattle.play.specs.Lists.{Each, Pairs}
use Rattle.play.specs.Steps.{Step, Found, found, standing_after}
use Rattle.play.specs.Runs.{steps_of, steps_by, IsOne, IsRow, IsMend, IsByWorker, is_full, operation_made, operations_in}
use Rattle.play.specs.Printed.{deed_text, is_noted, is_repaired, is_not_lost, is_gone, is_unrecoverable, mend_text, row_text, row_lines}
use Rattle.transcript.specs.Lines.{AreLines, IsLineFor, line_text}
use Rattle.play.specs.Accounts.{Placed, act_at, found_of, IsInTurn, Account, dones_in, numbers_in, steps_in, earlier, HasDone, Settles, IsAccount, IsDone}
use Rattle.transcript.specs.declared.outcome.NumberedOutcome.{NumberedOutcome}
use Rattle.transcript.specs.declared.line.Line.{Line}
use Rattle.play.proofs.Buckets.{after, each-append, each-both, each-by_key, each-filter, each-passes, each-weaker, by_key-all, by_key-one, by_key-same_order, filter-by_key, filter-map, pairs-filter, pairs-passing, pairs-weaker, twice}
use Rattle.play.proofs.Ordered.{key, key_before, place_of, keys_below, in_order_below, steps_at, Follow, follow, found_are, standing_is, goes_on, begins_at, each-map, all_each}
use Rattle.play.proofs.Sorting.{in_order}

-- ---- filters
-- the steps of the row with this number
abbrev of_row : ℕ → List Placed → List Placed
of_row number steps = filter (λ p. p.step.row == number) steps

none_of : (number : ℕ) (steps : List Placed) → Each (λ (p : Placed). p.step.row ≢ number) steps → of_row number steps ≡ []
none_of number [] others = refl
none_of number (p ∷ steps) others = let no : (p.step.row == number) ≡ false = ne_eqb p.step.row number others.0 in ap (λ b. cond b (p ∷ of_row number steps) (of_row number steps)) no ∙ none_of number steps others.1

all_of : (number : ℕ) (steps : List Placed) → Each (λ (p : Placed). p.step.row ≡ number) steps → of_row number steps ≡ steps
all_of number [] same = refl
all_of number (p ∷ steps) same = let yes : (p.step.row == number) ≡ true = grind (arith, nat_tests, same.0) in ap (λ b. cond b (p ∷ of_row number steps) (of_row number steps)) yes ∙ ap (λ l. p ∷ l) (all_of number steps same.1)

-- ---- one account for a row
abbrev pub numbers : List Account → List ℕ
numbers accounts = numbers_in (dones_in accounts)

abbrev HasOwn : Account → Type 0
HasOwn a = Each (λ (p : Placed). p.step.row ≡ a.done.number) a.steps

times-first : (k : ℕ) (a : Account) (accounts : List Account) → times k (numbers (a ∷ accounts)) ≡ cond {A = ℕ} (a.done.number == k) 1 0 + times k (numbers accounts)
times-first k a accounts = sum_by-cons (λ n. cond {A = ℕ} (n == k) 1 0) a.done.number (numbers accounts)

-- if a number is none of theirs
others_are : (k : ℕ) (accounts : List Account) → times k (numbers accounts) ≡ 0 → Each (λ (a : Account). a.done.number ≢ k) accounts
others_are k [] none = tt
others_are k (a ∷ accounts) none = (
  λ same. let here : (a.done.number == k) ≡ true = grind (arith, nat_tests, same) in let one = ap (λ b. cond {A = ℕ} b 1 0) here in absurd (omega (arith, times-first k a accounts, none, one)),
  others_are k accounts (omega (arith, times-first k a accounts, none)),
)

none_theirs : (k : ℕ) (accounts : List Account) → Each HasOwn accounts → Each (λ (a : Account). a.done.number ≢ k) accounts → of_row k (steps_in accounts) ≡ []
none_theirs k [] own others = refl
none_theirs k (a ∷ accounts) own others =
    filter-append (λ (p : Placed). p.step.row == k) a.steps (steps_in accounts)
    ∙ (λ i. none_of k a.steps (each-weaker (λ (p : Placed). p.step.row ≡ a.done.number) (λ (p : Placed). p.step.row ≢ k) (λ p is same. others.0 (sym is ∙ same)) a.steps own.0) i ++ none_theirs k accounts own.1 others.1 i)

-- the steps of its row are its own
abbrev pub IsAlone : List Placed → Account → Type 0
IsAlone steps a = of_row a.done.number steps ≡ a.steps

pub are_alone : (accounts : List Account) → Each HasOwn accounts → ((k : ℕ) → times k (numbers accounts) ≤ 1) → Each (IsAlone (steps_in accounts)) accounts
are_alone [] own once = tt
are_alone (a ∷ accounts) own once =
    let here : (a.done.number == a.done.number) ≡ true = grind (arith, nat_tests) in
    let one = ap (λ b. cond {A = ℕ} b 1 0) here in
    let none : times a.done.number (numbers accounts) ≡ 0 = omega (arith, times-first a.done.number a accounts, once a.done.number, one) in
    let others = others_are a.done.number accounts none in
    let rest = are_alone accounts own.1 (λ k. omega (arith, times-first k a accounts, once k)) in (
      filter-append (λ (p : Placed). p.step.row == a.done.number) a.steps (steps_in accounts)
          ∙ (λ i. all_of a.done.number a.steps own.0 i ++ none_theirs a.done.number accounts own.1 others i) ∙ append-nil a.steps,
      each-weaker (λ (b : Account). (b.done.number ≢ a.done.number) × IsAlone (steps_in accounts) b) (IsAlone (steps_in (a ∷ accounts)))
          (λ b h. filter-append (λ (p : Placed). p.step.row == b.done.number) a.steps (steps_in accounts)
          ∙ (λ i. none_of b.done.number a.steps (each-weaker (λ (p : Placed). p.step.row ≡ a.done.number) (λ (p : Placed). p.step.row ≢ b.done.number) (λ p is same. h.0 (sym same ∙ is)) a.steps own.0) i ++ h.1 i))
          accounts (each-both (λ (b : Account). b.done.number ≢ a.done.number) (IsAlone (steps_in accounts)) accounts others rest),
    )

-- the account of a number that is among theirs
pub the_account : (P : Account → Type 0) (k : ℕ) (accounts : List Account) → times k (numbers accounts) ≡ 1 → Each P accounts → (a : Account) × (a.done.number ≡ k) × P a
the_account P k [] once all = absurd (omega (arith, once))
the_account P k (a ∷ accounts) once all = by (a.done.number == k) refl (the_account P k accounts)
  where
    by : (b : Bool) → (a.done.number == k) ≡ b → (times k (numbers accounts) ≡ 1 → Each P accounts → (a' : Account) × (a'.done.number ≡ k) × P a') → (a' : Account) × (a'.done.number ≡ k) × P a'
    by true e rest = (a, grind (arith, e), all.0)
    by false e rest = let none = ap (λ b. cond {A = ℕ} b 1 0) e in rest (omega (arith, times-first k a accounts, once, none)) all.1

-- ---- in another order
-- the operation of a deed, if it has one
abbrev operation_for : Deed → Operation
operation_for (called o m) = o
operation_for (full o) = o
operation_for (too_long o) = o
operation_for (trimmed keep n) = stat []

abbrev many_in : Found → ℕ
many_in f = length (operation_made f.1.deed)

many_operations : (fs : List Found) → length (operations_in fs) ≡ sum_by many_in fs
many_operations [] = refl
many_operations (f ∷ fs) = omega (arith, length-append (operation_made f.1.deed) (operations_in fs), sum_by-cons many_in f fs, many_operations fs)

one_at_most : (d : Deed) → length (operation_made d) ≤ 1
one_at_most (called o m) = omega arith
one_at_most (full o) = omega arith
one_at_most (too_long o) = omega arith
one_at_most (trimmed keep n) = omega arith

the_one : (d : Deed) → length (operation_made d) ≡ 1 → operation_made d ≡ operation_for d ∷ []
the_one (called o m) one = refl
the_one (full o) one = refl
the_one (too_long o) one = refl
the_one (trimmed keep n) one = absurd (omega (arith, one))

few_operations : (fs : List Found) → length (operations_in fs) ≤ length fs
few_operations [] = omega arith
few_operations (f ∷ fs) = omega (arith, length-append (operation_made f.1.deed) (operations_in fs), one_at_most f.1.deed, few_operations fs)

-- if each has one
each_operation : (fs : List Found) → length (operations_in fs) ≡ length fs → operations_in fs ≡ map (λ (f : Found). operation_for f.1.deed) fs
each_operation [] all = refl
each_operation (f ∷ fs) all =
    let both = length-append (operation_made f.1.deed) (operations_in fs) in
    let one = one_at_most f.1.deed in
    let few = few_operations fs in
    (λ i. the_one f.1.deed (omega (arith, all, both, one, few)) i ++ each_operation fs (omega (arith, all, both, one, few)) i)

only_calls_moved : (xs ys : List Found) → IsPermutation xs ys → length (operations_in xs) ≡ length xs → length (operations_in ys) ≡ length ys
only_calls_moved xs ys moved all = omega (arith, all, many_operations xs, many_operations ys, sum_by-IsPermutation many_in xs ys moved, length_permutation xs ys moved)

-- each worker's steps keep their order
mends_moved : (workers : ℕ) (plan : List Item) (xs ys : List Found) → IsPermutation xs ys → ((who : ℕ) → steps_by who xs ≡ steps_by who ys) → IsMend workers plan xs → IsMend workers plan ys
mends_moved workers plan xs ys moved same m =
    let more = only_calls_moved xs ys moved m.only_calls in
    let f : Found → Operation = λ x. operation_for x.1.deed in
    let operations = subst (λ l. IsPermutation l (operations_in ys)) (sym (each_operation xs m.only_calls))
    (subst (IsPermutation (map f xs)) (sym (each_operation ys more)) (IsPermutation-map f xs ys moved)) in
    record {
      count = m.count;
      left_out = m.left_out;
      last = m.last;
      each = IsPermutation-trans (map repair_of plan) (operations_in xs ++ m.left_out) (operations_in ys ++ m.left_out) m.each (IsPermutation-append_left m.left_out (operations_in xs) (operations_in ys) operations);
      only_calls = more;
      workers_are = All-permutation (IsByWorker workers) xs ys moved m.workers_are;
      in_order = λ who. subst (λ l. Sublist (operations_in l) (map repair_of (take m.count plan))) (same who) (m.in_order who);
      all = λ none. m.all (list_any-IsPermutation (λ (x : Found). is_full x.1.deed) xs ys moved ∙ none);
    }

-- steps of one worker that are done one after the other stay so in the order of the acts
by_worker : (n who : ℕ) (steps : List Placed) → Each (λ (p : Placed). key p < suc (twice n)) steps → Pairs IsInTurn steps
    → steps_by who (map found_of steps) ≡ steps_by who (map found_of (in_order_below n steps))
by_worker n who steps below turns =
    let test : Placed → Bool = λ p. p.step.who == who in
    let mine = filter test steps in
    let passes = each-passes test steps in
    let rise = pairs-passing test (λ x y. key x ≤ key y) mine passes (pairs-weaker IsInTurn (λ x y. test x ≡ true → test y ≡ true → key x ≤ key y)
    (λ x y turn a b. key_before (act_at x) (act_at y) (place_of x) (place_of y) (turn (grind (arith, nat_tests, a, b)))) mine (pairs-filter IsInTurn test steps turns)) in
    let kept = by_key-same_order key (suc (twice n)) mine (each-filter (λ (p : Placed). key p < suc (twice n)) test steps below) rise in
    filter-map found_of (λ (f : Found). f.1.who == who) steps
    ∙ ap (map found_of) (sym kept ∙ sym (filter-by_key key test (suc (twice n)) steps))
    ∙ sym (filter-map found_of (λ (f : Found). f.1.who == who) (in_order_below n steps))

mend_text_moved : (xs ys : List Found) → IsPermutation xs ys → mend_text xs ≡ mend_text ys
mend_text_moved xs ys moved =
    let full = list_any-IsPermutation (λ (x : Found). is_full x.1.deed) xs ys moved in
    let count : (test : Note → Bool) → count_by (λ (f : Found). is_noted test f.1.deed) xs ≡ count_by (λ (f : Found). is_noted test f.1.deed) ys =
    λ test. sym (sum_by-IsPermutation (λ (f : Found). cond {A = ℕ} (is_noted test f.1.deed) 1 0) xs ys moved) in
    λ i. if full i then codes "full"
    else codes "mended " ++ (decimal (count is_repaired i) ++ (codes " " ++ (decimal (count is_not_lost i) ++ (codes " " ++ (decimal (count is_gone i) ++ (codes " " ++ decimal (count is_unrecoverable i)))))))

-- ---- the rows
each_steps : (P : Placed → Type 0) (accounts : List Account) → Each (λ (a : Account). Each P a.steps) accounts → Each P (steps_in accounts)
each_steps P [] all = tt
each_steps P (a ∷ accounts) all = each-append P a.steps (steps_in accounts) all.0 (each_steps P accounts all.1)

-- all steps, in the order of the acts
abbrev pub ordered : List Act → List Account → List Placed
ordered acts accounts = in_order_below (length acts) (steps_in accounts)

abbrev pub run_of : List Act → List Account → List Step
run_of acts accounts = steps_at (ordered acts accounts)

-- the line of a row's outcome
pub record IsLineOf (w : ℕ) (rows : List Row) (steps : List Step) (d : NumberedOutcome) : Type 0 where
  pub before : ℕ
  pub row : Row
  pub number : d.number ≡ before + 1
  pub there : slice_get rows before ≡ Some row
  pub text : (reply : Line) → IsLineFor d.outcome reply → line_text reply ≡ row_text w row.task (steps_of d.number steps)

module _ (w l workers : ℕ) (rows : List Row) (acts : List Act) (accounts : List Account) (has : HasDone w l acts (steps_in accounts)) where
  goes : Follow [] (ordered acts accounts) × (after begins_at goes_on [] (ordered acts accounts) ≡ acts)
  goes = follow w l acts (steps_in accounts) has (length acts) (omega arith)

  steps_for : (a : Account) → IsAlone (steps_in accounts) a → steps_of a.done.number (run_of acts accounts) ≡ map found_of (in_order_below (length acts) a.steps)
  steps_for a alone =
      let number = a.done.number in
      let all = ordered acts accounts in
      ap (filter (λ (f : Found). f.1.row == number)) (found_are [] all goes.0)
      ∙ filter-map found_of (λ (f : Found). f.1.row == number) all
      ∙ ap (map found_of) (filter-by_key key (λ (p : Placed). p.step.row == number) (suc (twice (length acts))) (steps_in accounts) ∙ ap (in_order_below (length acts)) alone)

  -- the standing that a mend finds
  standing_then : (number : ℕ) (found : List Act) → IsPrefix found acts → HasDone w l found (earlier number (steps_in accounts))
      → standing_after (filter (λ (x : Step). nat_lt x.row number) (run_of acts accounts)) ≡ standing_of found
  standing_then number found within done =
      let all = ordered acts accounts in
      let rest = in_order_below (length acts) (earlier number (steps_in accounts)) in
      let f = follow w l found (earlier number (steps_in accounts)) done (length acts) (prefix_length found acts within) in
      ap standing_after (filter-map (λ (p : Placed). p.step) (λ (x : Step). nat_lt x.row number) all ∙ ap steps_at (filter-by_key key (λ (p : Placed). nat_lt p.step.row number) (suc (twice (length acts))) (steps_in accounts)))
      ∙ standing_is [] rest ∙ ap standing_of f.1

  keys_of : (a : Account) → IsAlone (steps_in accounts) a → Each (λ (p : Placed). key p < suc (twice (length acts))) a.steps
  keys_of a alone = subst (Each (λ (p : Placed). key p < suc (twice (length acts)))) alone
      (each-filter (λ (p : Placed). key p < suc (twice (length acts))) (λ (p : Placed). p.step.row == a.done.number) (steps_in accounts) (keys_below w l acts (steps_in accounts) has.stand))

  -- what a row does, and the text of its reply
  abbrev LastRecords : Account → Row → Task → Type 0
  LastRecords a row task =
      IsRow workers (run_of acts accounts) a.done.number row task
      × ((reply : Line) → IsLineFor a.done.outcome reply → line_text reply ≡ row_text w task (steps_of a.done.number (run_of acts accounts)))

  is_told : (a : Account) → IsAlone (steps_in accounts) a → IsDone w l (length rows) acts (steps_in accounts) a → (row : Row) (task : Task) → Settles w workers row task a → LastRecords a row task
  is_told a alone done row (Make ask) (p, only, who, asked, text) =
      let below = subst (Each (λ (q : Placed). key q < suc (twice (length acts)))) only (keys_of a alone) in
      let one : steps_of a.done.number (run_of acts accounts) ≡ found_of p ∷ [] =
      steps_for a alone ∙ ap (map found_of) (ap (in_order_below (length acts)) only ∙ by_key-one key (suc (twice (length acts))) p below.0) in (
        subst (IsOne row ask) (sym one) (who, asked),
        λ reply is. text reply is ∙ sym (append-nil (deed_text w (standing_of p.before) p.step.deed)) ∙ ap (row_text w (Make ask)) (sym one),
      )
  is_told a alone done row Mend (found, is, mends, turns, text) =
      let finds = done.finds found is in
      let same = steps_for a alone in
      let moved = IsPermutation-map found_of a.steps (in_order_below (length acts) a.steps) (by_key-all key (suc (twice (length acts))) a.steps (keys_of a alone)) in
      let standing = standing_then a.done.number found finds.0 finds.1 in (
        subst (λ (u : Standing × List Found). IsMend workers (plan_of u.0.state) u.1) (λ i. (sym standing i, sym same i)) (mends_moved workers (plan_of (standing_of found).state) (map found_of a.steps) (map found_of (in_order_below (length acts) a.steps)) moved (λ who. by_worker (length acts) who a.steps (keys_of a alone) turns) mends),
        λ reply r_is. text reply r_is ∙ mend_text_moved (map found_of a.steps) (map found_of (in_order_below (length acts) a.steps)) moved ∙ ap mend_text (sym same),
      )

  module _ (right : Each (IsAccount w workers rows) accounts) (are_done : Each (IsDone w l (length rows) acts (steps_in accounts)) accounts) (once : (k : ℕ) → times k (numbers accounts) ≡ once_later (length rows + 1) k) where
    all_alone : Each (IsAlone (steps_in accounts)) accounts
    all_alone = are_alone accounts (each-weaker (IsAccount w workers rows) HasOwn (λ a is. is.of_row) accounts right) (λ k. let few = once_later-le (length rows + 1) k in omega (arith, once k, few))

    abbrev IsKnown : Account → Type 0
    IsKnown a = IsAccount w workers rows a × (IsDone w l (length rows) acts (steps_in accounts) a × IsAlone (steps_in accounts) a)

    all_known : Each IsKnown accounts
    all_known = each-both (IsAccount w workers rows) (λ a. IsDone w l (length rows) acts (steps_in accounts) a × IsAlone (steps_in accounts) a) accounts right
        (each-both (IsDone w l (length rows) acts (steps_in accounts)) (IsAlone (steps_in accounts)) accounts are_done all_alone)

    pub rows_are : (i : ℕ) (row : Row) → slice_get rows i ≡ Some row → IsRow workers (run_of acts accounts) (i + 1) row row.task
    rows_are i row there =
        let inside = slice_get_within rows i row there in
        let one = once (i + 1) ∙ once_later-here (length rows + 1) (i + 1) (omega arith) (omega (arith, inside)) in
        let found = the_account IsKnown (i + 1) accounts one all_known in
        let a = found.0 in
        let is = found.2.0 in
        let place : is.before ≡ i = omega (arith, is.number, found.1) in
        let same : is.row ≡ row = cc (sym is.there ∙ ap (slice_get rows) place ∙ there) in
        let told = (is_told a found.2.1.1 found.2.1.0 is.row is.row.task is.settles).0 in
        subst (λ (u : ℕ × Row). IsRow workers (run_of acts accounts) u.0 u.1 u.1.task) (λ i'. (found.1 i', same i')) told

    -- there are no others
    pub only_rows : All (λ (x : Step). (1 ≤ x.row) × (x.row ≤ length rows)) (run_of acts accounts)
    only_rows =
        let all = each_steps (λ (p : Placed). (1 ≤ p.step.row) × (p.step.row ≤ length rows)) accounts (each-weaker (IsAccount w workers rows) (λ (a : Account). Each (λ (p : Placed). (1 ≤ p.step.row) × (p.step.row ≤ length rows)) a.steps)
        (λ a is.
        let inside = slice_get_within rows is.before is.row is.there in
        each-weaker (λ (p : Placed). p.step.row ≡ a.done.number) (λ (p : Placed). (1 ≤ p.step.row) × (p.step.row ≤ length rows)) (λ p same. (omega (arith, same, is.number), omega (arith, same, is.number, inside))) a.steps is.of_row)
        accounts right) in
        all_each (λ (x : Step). (1 ≤ x.row) × (x.row ≤ length rows)) (run_of acts accounts)
        (each-map (λ (p : Placed). p.step) (λ (x : Step). (1 ≤ x.row) × (x.row ≤ length rows)) (ordered acts accounts)
        (each-by_key key (λ (p : Placed). (1 ≤ p.step.row) × (p.step.row ≤ length rows)) (suc (twice (length acts))) (steps_in accounts) all))

    -- each line
    pub lines_known : Each (IsLineOf w rows (run_of acts accounts)) (dones_in accounts)
    lines_known = each-map (λ (a : Account). a.done) (IsLineOf w rows (run_of acts accounts)) accounts
        (each-weaker IsKnown (λ (a : Account). IsLineOf w rows (run_of acts accounts) a.done)
        (λ a known. record {
          before = known.0.before;
          row = known.0.row;
          number = known.0.number;
          there = known.0.there;
          text = (is_told a known.1.1 known.1.0 known.0.row known.0.row.task known.0.settles).1;
        }) accounts all_known)

-- ---- the lines, in the order of the rows
row_at : (front rest : List Row) (row : Row) → slice_get (front ++ row ∷ rest) (length front) ≡ Some row
row_at [] rest row = refl
row_at (x ∷ front) rest row = row_at front rest row

pub lines_are : (w : ℕ) (rows : List Row) (steps : List Step) (front rest : List Row) (number : ℕ) (ds : List NumberedOutcome) (text : List ℕ) → rows ≡ front ++ rest → number ≡ length front + 1 → numbers_in ds ≡ range_with_len number (length rest)
    → Each (IsLineOf w rows steps) ds → AreLines ds text → text ≡ row_lines w steps number rest
lines_are w rows steps front [] number [] text all at same known lines = lines
lines_are w rows steps front [] number (d ∷ ds) text all at same known lines = absurd (cc same)
lines_are w rows steps front (row ∷ rest) number [] text all at same known lines = absurd (cc same)
lines_are w rows steps front (row ∷ rest) number (d ∷ ds) text all at same known (reply, rest_text, is, are, text_is) =
    let line = known.0 in
    let here : d.number ≡ number = cc same in
    let place : line.before ≡ length front = omega (arith, line.number, here, at) in
    let row_is : line.row ≡ row = cc (sym line.there ∙ (λ i. slice_get (all i) (place i)) ∙ row_at front rest row) in
    let told : line_text reply ≡ row_text w row.task (steps_of number steps) = line.text reply is ∙ (λ i. row_text w (row_is i).task (steps_of (here i) steps)) in
    let next = lines_are w rows steps (front ++ row ∷ []) rest (number + 1) ds rest_text (all ∙ sym (append_assoc front (row ∷ []) rest)) (omega (arith, at, length-append front (row ∷ []))) (cc same) known.1 are in
    text_is ∙ (λ i. (decimal (here i) ++ (codes " " ++ (told i ++ codes "\n"))) ++ next i)

-- put in the order of their numbers
pub each_all : {A : Type 0} (P : A → Type 0) (xs : List A) → All P xs → Each P xs
each_all P [] all = tt
each_all P (x ∷ xs) all = (All-head P x xs all, each_all P xs (All-tail P x xs all))

pub lines_moved : (w : ℕ) (rows : List Row) (steps : List Step) (ds sorted : List NumberedOutcome) → IsPermutation ds sorted → Each (IsLineOf w rows steps) ds → Each (IsLineOf w rows steps) sorted
lines_moved w rows steps ds sorted moved known = each_all (IsLineOf w rows steps) sorted (All-permutation (IsLineOf w rows steps) ds sorted moved (all_each (IsLineOf w rows steps) ds known))

-- numbers without repeats that do not fall
pub in_order_once : (n : ℕ) (ds sorted : List NumberedOutcome) → IsPermutation ds sorted → ((k : ℕ) → times k (numbers_in ds) ≡ once_later (n + 1) k) → Pairs (λ x y. x ≤ y) (numbers_in sorted) → numbers_in sorted ≡ range_with_len 1 n
in_order_once n ds sorted moved once rise =
    let same : (k : ℕ) → times k (numbers_in sorted) ≡ once_later (n + 1) k = λ k. sum_by-IsPermutation (λ q. cond {A = ℕ} (q == k) 1 0) (numbers_in ds) (numbers_in sorted) (IsPermutation-map (λ (d : NumberedOutcome). d.number) ds sorted moved) ∙ once k in
    in_order n 1 (numbers_in sorted) rise (record {
      inside = λ k low high. same k ∙ once_later-here (n + 1) k (omega (arith, low)) (omega (arith, high));
      low = λ k less. same k ∙ none k (omega (arith, less));
      high = λ k past. same k ∙ past_all k (omega (arith, past));
    })
  where
    none : (k : ℕ) → k ≡ 0 → once_later (n + 1) k ≡ 0
    none k zero_is = grind (arith, nat_tests, zero_is)

    past_all : (k : ℕ) → n + 1 ≤ k → once_later (n + 1) k ≡ 0
    past_all k past = grind (arith, nat_tests, past)
