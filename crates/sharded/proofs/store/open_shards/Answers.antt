use Rattle.std.proofs.Common.{◌≡◌, ◌++◌, ◌∷◌, [], length, reverse, ap, sym, subst, ◌∙◌, arith, rules, length-append}
use Rattle.history.specs.Log.{call_limit}
use Rattle.ledger.specs.Acts.{new_keepers}
use Rattle.shared.specs.Passes.{Which}
use Rattle.sharded.specs.Seats.{AreOpened}
use Rattle.sharded.proofs.Openings.{keepers_last, opened_more, all_more, keepers_many}
use Rattle.sharded.proofs.store.open_shards.Goals as goal

pub loop-keeper-init : goal.loop-keeper-init
loop-keeper-init c =
    let many : length c.args.keepers.items ≡ c.args.ledger.now.setup.count = ap length c.requires.keepers ∙ keepers_many c.args.ledger.now.table c.args.ledger.now.setup.count in record {
      keepers = c.requires.keepers ∙ ap (λ n. new_keepers c.args.ledger.now.table n) (sym many);
      count = search rules;
      stores = search rules;
      opened = search rules;
    }

pub loop-keeper-preserved : goal.loop-keeper-preserved
loop-keeper-preserved c =
    let last = keepers_last c.args.ledger.now.table c.loop-keeper.keepers.items c.pop.new.self.items c.in-Some.keeper c.loop-keeper.invariant.keepers c.in-Some.ensures.items in
    let shards = c.push_reserved.ensures.items ∙ ap (λ l. l ++ c.in_ok-shard.shard ∷ []) c.reserve.ensures.items in
    let seats = c.push_reserved-in-Some.ensures.items ∙ ap (λ l. l ++ c.in_ok-shard.seat ∷ []) c.reserve-in-Some.ensures.items in
    let opened = c.in_ok-shard.ensures in
    record {
      keepers = last.0;
      count = (let long = ap length shards ∙ length-append c.loop-keeper.shards.items (c.in_ok-shard.shard ∷ []) in omega (arith, long, last.2, c.loop-keeper.invariant.count));
      stores = all_more (λ (s : Which). (s.width ≡ c.args.width) × (s.limit ≡ call_limit c.args.limit.now)) c.loop-keeper.shards.items c.push_reserved.new.self.items c.in_ok-shard.shard shards (opened.shard.0, opened.shard.1 ∙ ap call_limit c.copy_of.ensures) c.loop-keeper.invariant.stores;
      opened = opened_more c.args.ledger.now.table (length c.pop.new.self.items) c.loop-keeper.shards.items c.push_reserved.new.self.items c.loop-keeper.seats.items c.push_reserved-in-Some.new.self.items c.in_ok-shard.shard c.in_ok-shard.seat shards seats
          opened.seat opened.at.0 (opened.at.1 ∙ ap (λ k. k.shard) last.1)
          (subst (λ n. AreOpened c.args.ledger.now.table n (reverse c.loop-keeper.shards.items) (reverse c.loop-keeper.seats.items)) last.2 c.loop-keeper.invariant.opened);
    }

pub open-requires-clause-ledger : goal.open-requires-clause-ledger
open-requires-clause-ledger c =
    ap (λ k. k.ledger) (keepers_last c.args.ledger.now.table c.loop-keeper.keepers.items c.pop.new.self.items c.in-Some.keeper c.loop-keeper.invariant.keepers c.in-Some.ensures.items).1

pub open-requires-clause-none : goal.open-requires-clause-none
open-requires-clause-none c =
    ap (λ k. k.acts) (keepers_last c.args.ledger.now.table c.loop-keeper.keepers.items c.pop.new.self.items c.in-Some.keeper c.loop-keeper.invariant.keepers c.in-Some.ensures.items).1
