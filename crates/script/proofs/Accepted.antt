-- What is known of rows that no test refused.
use Rattle.std.proofs.Common.{◌≡◌, ◌≤◌, ◌<◌, ◌+◌, ◌-◌, ℕ, List, [], ◌∷◌, ◌++◌, length, true, false, Bool, not, ◌&&◌, ◌||◌, Option, Some, None, arith, refl, ◌∙◌, length-append, nat_le, below_more, map}
use Rattle.std.specs.Prelude.{◌==◌, slice_get}
use Rattle.std.specs.List.{list_any}
use Rattle.std.proofs.lemmas.Bool.Decides.{nat_tests}
use Rattle.std.proofs.lemmas.List.{get_or_append_left, take-append-le}
use Rattle.std.proofs.Math.Seq.{get_or-append_seam, take-append_seam}
use Rattle.std.proofs.lemmas.List.Folds.{list_any-append}
use Rattle.std.proofs.lemmas.List.Elements.{All-push}
use Rattle.script.specs.declared.rows.Row.{Row}
use Rattle.script.specs.declared.rows.Word.{Word}
use Rattle.script.specs.Numbers.{is_number, value}
use Rattle.script.specs.declared.rows.Operation.{Operation}
use Rattle.script.specs.declared.rows.Operation.TheVariants.{Put, PutSmall, Read, Lose, Repair, Delete, Stat, Trim, Mend}
use Rattle.script.specs.Fields.{Record, a_field, b_field, is_number_in, is_worker, name_field, operation_field, operation_named, round_field, row_of, task_of, worker_field}
use Rattle.script.proofs.Rounds.{round-at}
use Rattle.script.specs.Script.{IsTidy, IsWorkerOf, HasWorker, breaks_mend, first_word, is_in_round, is_mend, is_mend_in_round, refused_at, AcceptedBefore, last_round, last_row, refusal, tests}

-- each test passes
abbrev AllPassed : List (Bool × Word) → Type 0
AllPassed [] = Unit {0}
AllPassed (t ∷ ts) = (t.0 ≡ false) × AllPassed ts

all-passed : (ts : List (Bool × Word)) → first_word ts ≡ None → AllPassed ts
all-passed [] h = tt
all-passed ((true, w) ∷ ts) h = cc h
all-passed ((false, w) ∷ ts) h = (refl, all-passed ts h)

-- what the tests determine of a record that none refuses
pub record Passed (workers : ℕ) (earlier : List Row) (r : Record) : Type 0 where
  pub room : (length earlier == 65536) ≡ false
  pub rises : last_round earlier ≤ value (round_field r)
  pub alone : breaks_mend earlier (row_of r) ≡ false
  pub worker : HasWorker workers (row_of r)

last-two : (a b c : Bool) → not (a && b && c) ≡ false → (b ≡ true) × (c ≡ true)
last-two true true true h = (refl, refl)
last-two true true false h = cc h
last-two true false c h = cc h
last-two false b c h = cc h

in-range : (workers : ℕ) (text : List ℕ) → not (is_number_in 1 workers text) ≡ false → (1 ≤ value text) × (value text ≤ workers)
in-range workers text h =
    let both = last-two (is_number text) (nat_le 1 (value text)) (nat_le (value text) workers) h in
    (grind (arith, nat_tests, both.0), grind (arith, nat_tests, both.1))

worker-of : (workers : ℕ) (o : Option Operation) (text name a b : List ℕ) → not (is_worker workers o text) ≡ false → IsWorkerOf workers (value text) (task_of o name a b)
worker-of workers None text name a b h = tt
worker-of workers (Some Put) text name a b h = in-range workers text h
worker-of workers (Some PutSmall) text name a b h = in-range workers text h
worker-of workers (Some Read) text name a b h = in-range workers text h
worker-of workers (Some Lose) text name a b h = in-range workers text h
worker-of workers (Some Repair) text name a b h = in-range workers text h
worker-of workers (Some Delete) text name a b h = in-range workers text h
worker-of workers (Some Stat) text name a b h = in-range workers text h
worker-of workers (Some Trim) text name a b h = in-range workers text h
worker-of workers (Some Mend) text name a b h = tt

last-both : (p q : Bool) → not (p && q) ≡ false → q ≡ true
last-both true true h = refl
last-both true false h = cc h
last-both false q h = cc h

pub passed-all : (workers : ℕ) (earlier : List Row) (r : Record) → refusal workers earlier r ≡ None → Passed workers earlier r
unfolding refusal
passed-all workers earlier r h =
    let passed = all-passed (tests workers earlier r) h in
    let rounds = passed.1.1.0 in
    let up = last-both (is_number_in 1 4294967295 (round_field r)) (nat_le (last_round earlier) (value (round_field r))) rounds in
    record { room = passed.0; rises = grind (arith, nat_tests); alone = passed.1.1.1.1.1.1.1.0; worker = worker-of workers (operation_named (operation_field r)) (worker_field r) (name_field r) (a_field r) (b_field r) passed.1.1.1.0 }

last-place : {X : Type 0} (xs : List X) (x : X) → slice_get (xs ++ (x ∷ [])) (length xs) ≡ Some x
last-place [] x = refl
last-place (y ∷ ys) x = last-place ys x

pub last-of-more : (rows : List Row) (row : Row) → last_row (rows ++ (row ∷ [])) ≡ Some row
last-of-more rows row =
    let at : length (rows ++ (row ∷ [])) - 1 ≡ length rows = omega (arith, length-append rows (row ∷ [])) in
    rw at (last-place rows row)

-- if a row breaks no rule of `mend`, its round has no earlier one
no-mend : (p q s : Bool) → (s ≡ true → p ≡ true) → (p && (q || s)) ≡ false → s ≡ false
no-mend true true s i h = cc h
no-mend true false s i h = h
no-mend false q true i h = cc (i refl)
no-mend false q false i h = refl

first-of : (p q : Bool) → (p && q) ≡ true → p ≡ true
first-of true q h = refl
first-of false q h = cc h

either : (p q x y : Bool) → (p ≡ true → x ≡ true) → (q ≡ true → y ≡ true) → (p || q) ≡ true → (x || y) ≡ true
either p q true y f g h = refl
either true q false y f g h = cc (f refl)
either false q false y f g h = g h

same : (n : ℕ) → (n == n) ≡ true
same n = grind (arith, nat_tests)

or-false : (b : Bool) → (b || false) ≡ b
or-false true = refl
or-false false = refl

-- a `mend` of a round is a row of it
in-round : (round : ℕ) (rows : List Row) → list_any (is_mend_in_round round) rows ≡ true → list_any (is_in_round round) rows ≡ true
in-round round [] h = h
in-round round (row ∷ rows) h =
    either (is_mend_in_round round row) (list_any (is_mend_in_round round) rows) (is_in_round round row) (list_any (is_in_round round) rows)
    (first-of (is_in_round round row) (is_mend row.task)) (in-round round rows) h

pub tidy-none : IsTidy []
tidy-none = record { rises = λ k d l. absurd (omega arith); alone = refl }

pub tidy-more : (workers : ℕ) (rows : List Row) (r : Record) → IsTidy rows → Passed workers rows r → IsTidy (rows ++ (row_of r ∷ []))
tidy-more workers rows r t p =
    let last = last-of-more rows (row_of r) in
    let round : last_round (rows ++ (row_of r ∷ [])) ≡ (row_of r).round = round-at (rows ++ (row_of r ∷ [])) _ (row_of r) last in
    let none = no-mend (list_any (is_in_round (row_of r).round) rows) (is_mend (row_of r).task) (list_any (is_mend_in_round (row_of r).round) rows) (in-round (row_of r).round rows) p.alone in
    record {
      rises = rw round (All-push (λ row. row.round ≤ (row_of r).round) rows (row_of r) (λ k d l. let le = t.rises k d l in let up = p.rises in omega arith) (omega arith));
      alone = rw (round, last, list_any-append, none, same (value (round_field r))) (or-false (is_mend (row_of r).task));
    }

-- among more records, one of the first is refused for the same reason
pub refused-among : (workers : ℕ) (done rest : List Record) (i : ℕ) → i < length done → refused_at workers (done ++ rest) i ≡ refused_at workers done i
unfolding refused_at
refused-among workers done rest i l =
    let le : i ≤ length done = omega arith in rw (take-append-le i done rest le, get_or_append_left done rest [] i l) refl

-- the first record after these
pub refused-next : (workers : ℕ) (done : List Record) (r : Record) (rest : List Record) → refused_at workers (done ++ (r ∷ rest)) (length done) ≡ refusal workers (map row_of done) r
unfolding refused_at
refused-next workers done r rest = rw (take-append_seam done (r ∷ rest), get_or-append_seam done r rest []) refl

pub accepted-among : (workers : ℕ) (done rest : List Record) → AcceptedBefore workers done (length done) → AcceptedBefore workers (done ++ rest) (length done)
accepted-among workers done rest h i l = refused-among workers done rest i l ∙ h i l

pub accepted-more : (workers : ℕ) (done : List Record) (r : Record) → AcceptedBefore workers done (length done) → refusal workers (map row_of done) r ≡ None
    → AcceptedBefore workers (done ++ (r ∷ [])) (length (done ++ (r ∷ [])))
accepted-more workers done r h n =
    let more : length (done ++ (r ∷ [])) ≡ length done + 1 = omega (arith, length-append done (r ∷ [])) in
    let P : ℕ → Type 0 = λ i. refused_at workers (done ++ (r ∷ [])) i ≡ None in
    rw more (below_more P (length done) (accepted-among workers done (r ∷ []) h) (refused-next workers done r [] ∙ n))
