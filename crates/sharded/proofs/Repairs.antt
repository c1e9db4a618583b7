-- What a worker did at all shards.
use Rattle.std.proofs.Common.{◌≡◌, ◌⊎◌, inl, inr, ⊎_elim, ℕ, List, [], ◌∷◌, ◌++◌, length, Some, Err, slice_get, refl, ap, sym, subst, ◌∙◌, append_assoc}
use Rattle.std.proofs.lemmas.Option.{slice_get_within}
use Rattle.std.proofs.lemmas.List.{length-set}
use Rattle.sealed.specs.declared.fault.Fault.{Fault}
use Rattle.sealed.specs.declared.fault.Fault.TheVariants.{NoMemory}
use Rattle.book.specs.declared.plan.Item.{Item}
use Rattle.history.specs.Step.{Operation}
use Rattle.std.specs.Vec.{vec_capacity}
use Rattle.mender.specs.declared.done.Done.{Done}
use Rattle.mender.specs.declared.done.WorkFault.{WorkFault}
use Rattle.mender.specs.Drawn.{DrawerState}
use Rattle.mender.specs.Gathered.{tickets_of}
use Rattle.mender.specs.Worked.{repair_of}
use Rattle.mender.specs.Made.{AreMade, IsHalted}
use Rattle.mender.proofs.Working.{InHand}
use Rattle.shared.specs.Passes.{Shows}
use Rattle.one_map.specs.Hash.{shard_of}
use Rattle.sharded.specs.Passes.{PassShows}
use Rattle.sharded.specs.Steps.{IsCallAt}
use Rattle.sharded.proofs.Steps.{set_here}
use Rattle.sharded.specs.Repairs.{AreRepaired, IsStopped, HasRoomInHand, IsRepairedAt}

-- a repair that was out of memory found room in its shard's journal
room_in_hand : (plan : List Item) (old new : DrawerState) (us ws : List Shows) (done : List Done) (n : ℕ) (it : Item) (o : Operation) (fault : Fault) → InHand plan old new done n it → IsCallAt us o (Err fault) ws → o ≡ repair_of it → fault ≡ NoMemory
    → HasRoomInHand plan new ws
room_in_hand plan old new us ws done n it o fault h made same lacks =
    let k = shard_of (length us) it.name in
    let refused : IsCallAt us (repair_of it) (Err NoMemory) ws = subst (λ (x : Operation × Fault). IsCallAt us x.0 (Err x.1) ws) (λ i. (same i, lacks i)) made in
    let long : length ws ≡ length us = ap length refused.only ∙ length-set us k refused.new in
    let here : slice_get ws k ≡ Some refused.new = ap (λ l. slice_get l k) refused.only ∙ set_here us k refused.new (slice_get_within us k refused.old refused.there) in
    record {
      before = old.drawn ++ tickets_of done;
      ticket = n;
      drawn = h.after.draws.drawn ∙ sym (append_assoc old.drawn (tickets_of done) (n ∷ []));
      item = it;
      there = h.there;
      shown = refused.new;
      here = subst (λ m. slice_get ws (shard_of m it.name) ≡ Some refused.new) (sym long) here;
      room = ⊎_elim (λ room. room) (λ outside. absurd outside) (refused.does.no_memory refl);
    }

-- the repairs, by what the passes show at the shards
pub made_repaired : (v w : PassShows) (done : List Done) → AreMade IsRepairedAt v done w → AreRepaired v.shards done w.shards
made_repaired v w [] same = ap (λ (x : PassShows). x.shards) same
made_repaired v w (d ∷ done) (u, made, rest) = (u.shards, made, made_repaired u w done rest)

module _ {plan : List Item} {old new : DrawerState} {v w : PassShows} {stop : WorkFault} (halt : IsHalted IsRepairedAt plan old new v stop w) where
  -- the repair of the item in hand was refused, or memory for its result was
  pub halt_stopped : IsStopped plan old new v.shards stop.done.items stop.fault w.shards
  halt_stopped = record {
    ticket = halt.ticket;
    item = halt.item;
    there = halt.there;
    none = halt.none;
    worked = halt.worked;
    before = halt.before.shards;
    repaired = made_repaired v halt.before stop.done.items halt.made;
    refused = ⊎_elim
        (λ (out : (stop.fault ≡ NoMemory) × (w ≡ halt.before) × (vec_capacity stop.done ≡ length stop.done.items)). inl (out.0, ap (λ (x : PassShows). x.shards) out.1))
        (λ (made : IsRepairedAt halt.before halt.item (Err stop.fault) w). inr made) halt.refused;
  }

  pub halt_no_memory : stop.fault ≡ NoMemory → HasRoomInHand plan new w.shards ⊎ (vec_capacity stop.done ≡ length stop.done.items)
  halt_no_memory lacks = ⊎_elim
      (λ (out : (stop.fault ≡ NoMemory) × (w ≡ halt.before) × (vec_capacity stop.done ≡ length stop.done.items)). inr out.2)
      (λ (made : IsRepairedAt halt.before halt.item (Err stop.fault) w). inl (room_in_hand plan old new halt.before.shards w.shards stop.done.items halt.ticket halt.item (repair_of halt.item) stop.fault (record { there = halt.there; none = halt.none; after = halt.worked }) made refl lacks)) halt.refused
