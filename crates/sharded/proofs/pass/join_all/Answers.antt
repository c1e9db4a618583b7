use Rattle.std.proofs.Common.{◌∙◌}
use Rattle.shard.specs.Seats.{SeatShows}
use Rattle.sharded.specs.Seats.{IsSeatJoined}
use Rattle.sharded.proofs.Taken.{taken_first, popped_stores, popped_taken}
use Rattle.sharded.proofs.pass.join_all.Goals as goal

pub loop-other-init : goal.loop-other-init
loop-other-init c = taken_first (λ (s : SeatShows). s.shows.store) IsSeatJoined c.args.seats.now.items c.args.others.items

pub loop-other-preserved : goal.loop-other-preserved
loop-other-preserved c =
    let joined = c.join.ensures in
    popped_taken (λ (s : SeatShows). s.shows.store) IsSeatJoined (λ (s : SeatShows). s.shows.store) c.args.seats.now.items c.args.others.items c.loop-other.seats.items c.loop-other.others.items c.pop.new.self.items c.args.shards.now c.len-shard.result c.in-Some.other c.index_mut.result.now c.index-shards-shard.result (record {
      stores = c.requires.stores;
      others = c.requires.others;
      from = c.loop-other.invariant;
      is = c.in-Some.ensures.items;
      count = c.len-shard.ensures ∙ c.pop.new.self.ok.0;
      own_is = c.index_mut.ensures.value;
      store_is = c.index-shards-shard.is;
    })
    c.join.new.self
    (record {
      joined = record {
        store = joined.unchanged.0;
        who = joined.unchanged.1;
        room = joined.unchanged.2;
        one = joined.one;
        seen = joined.seen;
        made = joined.made;
        acts = joined.acts;
        did = joined.did;
        whole = joined.whole;
        apart = joined.apart;
      };
      one = joined.one_acts;
      agrees = joined.agrees;
      same = joined.same;
    })
    joined.unchanged.0

pub join-requires : goal.join-requires
join-requires c = record {
  shard = popped_stores (λ (s : SeatShows). s.shows.store) IsSeatJoined (λ (s : SeatShows). s.shows.store) c.args.seats.now.items c.args.others.items c.loop-other.seats.items c.loop-other.others.items c.pop.new.self.items c.args.shards.now c.len-shard.result c.in-Some.other c.index_mut.result.now c.index-shards-shard.result (record {
    stores = c.requires.stores;
    others = c.requires.others;
    from = c.loop-other.invariant;
    is = c.in-Some.ensures.items;
    count = c.len-shard.ensures ∙ c.pop.new.self.ok.0;
    own_is = c.index_mut.ensures.value;
    store_is = c.index-shards-shard.is;
  });
}
