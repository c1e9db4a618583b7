-- The word of a record that passes the first tests.
use Rattle.std.proofs.Common.{◌≡◌, ℕ, List, [], ◌∷◌, length, true, false, Bool, not, nat_le, refl, sym, subst, ◌∙◌, Some, None}
use Rattle.std.specs.Prelude.{◌==◌, is_some}
use Rattle.script.specs.declared.rows.Head.{Head}
use Rattle.script.specs.declared.rows.Refusal.{Refusal}
use Rattle.script.specs.declared.rows.Refusal.TheVariants as refusal_is
use Rattle.script.specs.declared.rows.Row.{Row}
use Rattle.script.specs.declared.rows.Task.{Task}
use Rattle.script.specs.declared.rows.Word.{Word}
use Rattle.script.specs.declared.rows.Word.TheVariants as word
use Rattle.script.specs.Numbers.{value}
use Rattle.script.specs.Fields.{Record, a_field, b_field, fits_arguments, fits_name, is_number_in, is_worker, name_field, operation_field, operation_named, round_field, row_of, task_of, worker_field}
use Rattle.script.specs.Script.{Heads, RefusesWith, breaks_mend, first_word, last_round, late_word, refusal, task_refusal}

-- a test that comes later changes no word that was found
more-words : (p q : Bool) (v w : Word) (rest : List (Bool × Word)) (e : Refusal) → RefusesWith e (first_word ((p, v) ∷ (q, w) ∷ [])) → RefusesWith e (first_word ((p, v) ∷ (q, w) ∷ rest))
more-words p q v w rest refusal_is.NoMemory h = tt
more-words true q v w rest (refusal_is.Refused u) h = h
more-words false true v w rest (refusal_is.Refused u) h = h
more-words false false v w rest (refusal_is.Refused u) h = cc h

pub refusal_late : (workers : ℕ) (earlier : List Row) (r : Record) → (length earlier == 65536) ≡ false → (length r == 6) ≡ true
    → is_number_in 1 4294967295 (round_field r) ≡ true → nat_le (last_round earlier) (value (round_field r)) ≡ true
    → is_worker workers (operation_named (operation_field r)) (worker_field r) ≡ true
    → is_some (operation_named (operation_field r)) ≡ true
    → refusal workers earlier r ≡ late_word earlier r
unfolding refusal
refusal_late workers earlier r a b c d e f = rw (a, b, c, d, e, f) refl

pub tells-late : (earlier : List Row) (r : Record) (e : Refusal) → RefusesWith e (task_refusal (operation_named (operation_field r)) (name_field r) (a_field r) (b_field r)) → RefusesWith e (late_word earlier r)
tells-late earlier r e h =
    more-words (not (fits_name (operation_named (operation_field r)) (name_field r))) (not (fits_arguments (operation_named (operation_field r)) (a_field r) (b_field r)))
    word.Name word.Argument ((breaks_mend earlier (row_of r), word.Mend) ∷ []) e h

-- a record whose task is refused
pub row-refused : (workers : ℕ) (earlier : List Row) (r : Record) (head : Head) (e : Refusal) → Heads workers earlier r head
    → RefusesWith e (task_refusal (Some head.operation) (name_field r) (a_field r) (b_field r)) → RefusesWith e (refusal workers earlier r)
row-refused workers earlier r head e h t = rw h.late (tells-late earlier r e (rw h.operation t))

last-word : (p q s : Bool) (u v w : Word) → first_word ((p, u) ∷ (q, v) ∷ []) ≡ None → s ≡ true → first_word ((p, u) ∷ (q, v) ∷ (s, w) ∷ []) ≡ Some w
last-word true q s u v w h e = cc h
last-word false true s u v w h e = cc h
last-word false false s u v w h e = rw e refl

-- the row of a record whose fields are read
pub row-is : (workers : ℕ) (earlier : List Row) (r : Record) (head : Head) (task : Task) → Heads workers earlier r head
    → task ≡ task_of (Some head.operation) (name_field r) (a_field r) (b_field r)
    → row_of r ≡ record { round = head.round; worker = head.worker; task = task }
row-is workers earlier r head task h t = rw (h.operation, h.round, h.worker, t) refl

-- a row that breaks the rule of `mend`
pub row-beside-mend : (workers : ℕ) (earlier : List Row) (r : Record) (head : Head) (task : Task) → Heads workers earlier r head
    → task_refusal (Some head.operation) (name_field r) (a_field r) (b_field r) ≡ None
    → task ≡ task_of (Some head.operation) (name_field r) (a_field r) (b_field r)
    → breaks_mend earlier (record { round = head.round; worker = head.worker; task = task }) ≡ true
    → refusal workers earlier r ≡ Some word.Mend
row-beside-mend workers earlier r head task h none t broken =
    let breaks : breaks_mend earlier (row_of r) ≡ true =
    let P : Row → Type 0 = λ row. breaks_mend earlier row ≡ true in subst P (sym (row-is workers earlier r head task h t)) broken in
    let none_here : task_refusal (operation_named (operation_field r)) (name_field r) (a_field r) (b_field r) ≡ None = rw h.operation none in
    h.late ∙ last-word (not (fits_name (operation_named (operation_field r)) (name_field r))) (not (fits_arguments (operation_named (operation_field r)) (a_field r) (b_field r))) (breaks_mend earlier (row_of r))
    word.Name word.Argument word.Mend none_here breaks
