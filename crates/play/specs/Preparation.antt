-- A mend before its round.
use Rattle.std.specs.Prelude.{◌≡◌, ℕ, ◌+◌, ◌≤◌, ◌^◌, [], ◌++◌, length, Vec}
use Rattle.std.specs.Global.{Global}
use mathlib.Core.List.{IsPrefix}
use Rattle.book.specs.Plan.{plan_of}
use Rattle.book.specs.Serial.{standing_of}
use Rattle.shared.specs.Passes.{Which, Shows}
use Rattle.rounds.specs.Pools.{IsFresh, did_by, passes_of}
use Rattle.rounds.specs.declared.pool.Pool.{Pool}
use Rattle.play.specs.Mends.{AreMenders, AreForRow, given_to_all}
use Rattle.play.specs.declared.mend.Preparation.{Preparation}

-- The passes of a pool are joined and split again. Each worker has one of the new passes, and a part
-- in mending the plan of what they have seen. The first drawer and those of the parts have 2^40
-- tickets to draw, and the first one leaves enough of them for the plan
pub record IsPreparation (store : Which) (pool : Pool) (row : ℕ) (p : Preparation) : Type 0 where
  pub passes : Vec Shows Global
  pub fresh : IsFresh store (record { first = p.first; passes = passes })
  pub given : passes_of p.works.items ≡ passes.items
  pub many : length passes.items ≡ length pool.passes.items
  pub seen : IsPrefix pool.first.acts p.first.acts
  pub did : p.first.did ≡ pool.first.did ++ did_by pool.passes.items
  pub planned : p.plan.value.items.items ≡ plan_of (standing_of p.first.acts).state
  pub menders : AreMenders p.plan.value.items.items p.tickets.value p.works.items
  pub rows : AreForRow row p.works.items
  pub drawer_of : p.drawer.tickets ≡ p.tickets.value
  pub none : p.drawer.drawn ≡ []
  pub shares : p.drawer.allowance + given_to_all p.works.items ≡ 2 ^ 40
  pub room : p.drawer.allowance + length p.plan.value.items.items ≤ 2 ^ 40
