use Rattle.std.proofs.Common.{◌≡◌, ◌∙◌, length, reverse, ap, sym, subst, arith}
use Rattle.std.proofs.lemmas.List.{length-map}
use Rattle.sharded.specs.Passes.{stores_of, HaveActsOfShards}
use Rattle.sharded.specs.Closings.{AreClosed}
use Rattle.sharded.proofs.Closings.{closed_interleaving, closed_one_map}
use Rattle.sharded.proofs.Joins.{seat_stores_of}
use Rattle.sharded.proofs.store.ShardedStore.take_books.Goals as goal

pub take_all-requires-clause-stores : goal.take_all-requires-clause-stores
take_all-requires-clause-stores c = seat_stores_of c.pass.inside.seats.items ∙ ap (λ v. stores_of v.shards) c.pass.view_is ∙ ap (λ s. s.shards) c.requires.store ∙ ap (λ s. s.shards) (sym c.self.view_is) ∙ sym c.deref.ensures.value

pub returns-clause-interleaving : goal.returns-clause-interleaving
returns-clause-interleaving c =
    closed_interleaving c.args.pass.shards (reverse c.take_all.new.books.items) (subst (λ v. HaveActsOfShards v.shards) c.pass.view_is c.pass.invariant.homed)
    (subst (λ v. AreClosed v.shards (reverse c.take_all.new.books.items)) c.pass.view_is c.take_all.ensures.closed)

pub returns-clause-one_map : goal.returns-clause-one_map
returns-clause-one_map c w wide =
    let long : length c.args.pass.shards ≡ length c.self.inside.shards.items = sym (length-map c.args.pass.shards (λ v. v.store)) ∙ ap (λ s. length s.shards) c.requires.store ∙ ap (λ s. length s.shards) (sym c.self.view_is) in
    closed_one_map w c.args.pass.shards (reverse c.take_all.new.books.items) (omega (arith, long, c.self.invariant.0))
    (subst (λ v. AreClosed v.shards (reverse c.take_all.new.books.items)) c.pass.view_is c.take_all.ensures.closed) wide
