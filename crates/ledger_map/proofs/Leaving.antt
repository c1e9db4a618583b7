-- What a book that is left tells of its shard's acts.
use Rattle.std.proofs.Common.{ℕ, ◌<◌, List, [], ◌∷◌, ◌++◌, sym, subst, ◌∙◌}
use Rattle.history.specs.History.{Event, History, IsLegal}
use Rattle.book.specs.Serial.{Act, events_in}
use Rattle.requests.specs.Between.{RecordsActs}
use Rattle.requests.proofs.Between.{events-append}
use Rattle.ledger.specs.declared.view.Setup.{Setup}
use Rattle.ledger.specs.declared.view.ShardAct.{ShardAct}
use Rattle.ledger.specs.Acts.{AreLegal}
use Rattle.one_map.specs.OneMap.{IsLegalOneMap}
use Rattle.one_map.proofs.OneMap.{legal_both_ways}
use Rattle.ledger_map.specs.Legal.{AreCallsAt, event_shard, AreActsOfShard, calls_of}
use Rattle.ledger_map.proofs.Parts.{part-calls}
use Rattle.ledger.specs.declared.held.Held.{Held}
use Rattle.ledger_map.specs.declared.acts.ShardBook.{ShardBook}
use Rattle.ledger_map.specs.Books.{book_of, between_books, MayLeave}

calls-append : (shard : Event → ℕ) (k : ℕ) (h g : History) → AreCallsAt shard k h → AreCallsAt shard k g → AreCallsAt shard k (h ++ g)
calls-append shard k [] g a b = b
calls-append shard k (e ∷ es) g a b = (a.0, calls-append shard k es g a.1 b)

-- the shard's acts stay legal
pub left_legal : (setup : Setup) (x : Held ShardBook Act) (y : ShardBook) → MayLeave setup x y → AreActsOfShard setup x.keeper.shard x.keeper.acts → AreActsOfShard setup x.keeper.shard (x.keeper.acts ++ between_books x.value y)
left_legal setup x y may before =
    let told : RecordsActs (book_of y) (x.keeper.acts ++ between_books x.value y) = may.1.holds x.keeper.acts may.0.holds in (
      subst (λ (w : ℕ). IsLegal w (events_in (x.keeper.acts ++ between_books x.value y))) (may.1.width ∙ may.0.width) told.holds.legal,
      subst (AreCallsAt (event_shard setup.count) x.keeper.shard) (sym (events-append x.keeper.acts (between_books x.value y)))
          (calls-append (event_shard setup.count) x.keeper.shard (events_in x.keeper.acts) (events_in (between_books x.value y)) before.1 may.2),
    )

-- what a follower has seen is a legal history of one map
pub one_map : (setup : Setup) (list : List (ShardAct Act)) → 0 < setup.count → AreLegal (AreActsOfShard setup) list → IsLegalOneMap setup.count setup.about (calls_of list)
one_map setup list some legal =
    (legal_both_ways setup.count setup.about some (calls_of list)).0
    (λ k below. subst (IsLegal setup.about) (sym (part-calls (event_shard setup.count) list (λ j. (legal j).1) k)) (legal k).0)
