-- How many puts there were.
use Rattle.std.proofs.Common.{◌≡◌, ℕ, ◌+◌, Bool, true, false, List, [], ◌∷◌, map, Option, None, Some, cond, refl, ap, ◌∙◌, arith}
use Rattle.std.specs.Prelude.{count_by}
use Rattle.std.specs.FinMap as finite
use Rattle.std.proofs.lemmas.List.Sums.{sum_by-cons}
use Rattle.history.specs.State.{State, Blob}
use Rattle.history.specs.Step.{Operation, put, read, lose, repair, restore, delete, stat, after, with_lost}
use Rattle.history.specs.History.{History, after_all, call_of, entry_of, is_put, is_put_call}
use Rattle.history.specs.Parts.{can_change, changes_of}
use Rattle.history.specs.declared.note.Call.{Call}
use Rattle.history.specs.declared.note.Call.TheVariants.{Put, Read, Lose, Repair, Restore, Delete, Stat}
use Rattle.history.specs.declared.note.Note.{Note}
use Rattle.history.specs.declared.note.Note.TheVariants as note
use Rattle.history.specs.declared.note.Entry.{Entry}

puts-with_lost : (s : State) (n : List ℕ) (blob : Option Blob) (change : _) → (with_lost s n blob change).puts ≡ s.puts
puts-with_lost s n None change = refl
puts-with_lost s n (Some blob) change = refl

-- a put counts one, and nothing else does
pub puts-after : (s : State) (o : Operation) (m : Note) → (after s o m).puts ≡ s.puts + cond (is_put_call (call_of o)) 1 0
puts-after s (put n code b) m = refl
puts-after s (read n start len) m = omega arith
puts-after s (lose n j f) (note.Lost v) = puts-with_lost s n (finite.get s.names n) _ ∙ omega arith
puts-after s (lose n j f) m = omega arith
puts-after s (repair n j f) (note.Repaired v) = puts-with_lost s n (finite.get s.names n) _ ∙ omega arith
puts-after s (repair n j f) m = omega arith
puts-after s (restore n v j f) (note.Repaired x) = puts-with_lost s n (finite.get s.names n) _ ∙ omega arith
puts-after s (restore n v j f) m = omega arith
puts-after s (delete n) (note.Deleted v) = omega arith
puts-after s (delete n) m = omega arith
puts-after s (stat n) m = omega arith

count_cons : (x : Entry) (xs : List Entry) → count_by is_put (x ∷ xs) ≡ cond (is_put x) 1 0 + count_by is_put xs
count_cons x xs = sum_by-cons (λ y. cond (is_put y) 1 0) x xs

-- puts are among the entries that can change something
no_put : (c : Call) → can_change c ≡ false → is_put_call c ≡ false
no_put (Put n code len) h = h
no_put (Read n start len) h = refl
no_put (Lose n j f) h = refl
no_put (Repair n j f) h = refl
no_put (Restore n v j f) h = refl
no_put (Delete n) h = refl
no_put (Stat n) h = refl

pub puts_among : (es : List Entry) → count_by is_put (changes_of es) ≡ count_by is_put es
puts_among [] = refl
puts_among (e ∷ es) = by (can_change e.call) refl (puts_among es)
  where
    by : (b : Bool) → can_change e.call ≡ b → count_by is_put (changes_of es) ≡ count_by is_put es → count_by is_put (cond b (e ∷ changes_of es) (changes_of es)) ≡ count_by is_put (e ∷ es)
    by true t rest = omega (arith, count_cons e (changes_of es), count_cons e es, rest)
    by false t rest = omega (arith, count_cons e es, rest, ap {B = ℕ} (λ b. cond b 1 0) (no_put e.call t))

pub puts-after_all : (s : State) (h : History) → (after_all s h).puts ≡ s.puts + count_by is_put (map entry_of h)
puts-after_all s [] = omega arith
puts-after_all s (e ∷ h) = puts-after_all (after s e.operation e.note) h ∙ omega (arith, puts-after s e.operation e.note, count_cons (entry_of e) (map entry_of h))
