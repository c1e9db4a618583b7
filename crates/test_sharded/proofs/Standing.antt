-- What one caller did first stands first in the list of all shards.
use Rattle.std.proofs.Common.{ℕ, Result, Ok, Err, OnOk, List, [], ◌∷◌, ◌++◌, refl, ap, sym, ◌∙◌, append_assoc}
use Rattle.sealed.specs.declared.fault.Fault.{Fault}
use Rattle.history.specs.declared.note.Note.{Note}
use Rattle.history.specs.Step.{Operation}
use Rattle.book.specs.Serial.{Act, call}
use Rattle.book.specs.declared.answer.Answer.{Answer}
use Rattle.shared.specs.Deeds.{deed_of, act_if}
use Rattle.ledger.specs.declared.view.ShardAct.{ShardAct}
use Rattle.ledger.specs.Acts.{shard_act}
use Rattle.shard.specs.Listed.{Listing, IsListed}
use Rattle.test_sharded.specs.Standing.{StandsBefore}

pub stands_before : {k j who who' : ℕ} {one other : Operation} {a b : Note} {h s h' s' : List Act} {u v w : Listing} → IsListed k (call (record { who = who; operation = one; note = a }) ∷ []) h s u v
    → IsListed j (call (record { who = who'; operation = other; note = b }) ∷ []) h' s' v w → StandsBefore one other w.list
stands_before {k} {j} {who} {who'} {one} {other} {a} {b} {h} {s} {h'} {s'} {u} {v} {w} first then =
    let x : ShardAct Act = shard_act k (call (record { who = who; operation = one; note = a })) in
    let y : ShardAct Act = shard_act j (call (record { who = who'; operation = other; note = b })) in
    let rest : List (ShardAct Act) = then.seen.0 in record {
      before = first.before;
      first = x;
      between = rest;
      second = y;
      after = [];
      whole =
          then.list ∙ ap (λ (l : List (ShardAct Act)). l ++ y ∷ []) (sym then.seen.1) ∙ ap (λ (l : List (ShardAct Act)). (l ++ rest) ++ y ∷ []) first.list
          ∙ append_assoc (first.before ++ x ∷ []) rest (y ∷ []) ∙ append_assoc first.before (x ∷ []) (rest ++ y ∷ []);
      first_is = record { who = who; note = a; is = refl };
      second_is = record { who = who'; note = b; is = refl };
    }

-- where the second call has an answer
pub stands_on_ok : {k j who : ℕ} {one : Operation} {a : Note} {h s h' s' : List Act} {u v w : Listing} (who' : ℕ) (other : Operation) (r : Result Answer Fault) → IsListed k (call (record { who = who; operation = one; note = a }) ∷ []) h s u v
    → IsListed j (act_if who' (deed_of other r)) h' s' v w → OnOk r (StandsBefore one other w.list)
stands_on_ok who' other (Ok answer) first then = stands_before first then
stands_on_ok who' other (Err fault) first then = tt
