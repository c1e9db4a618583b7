-- The parts of a plan, and what remains of one.
use Rattle.std.proofs.Common.{◌≡◌, ℕ, List, [], ◌∷◌, length, Option, Some, ap₂, arith}
use Rattle.book.specs.declared.plan.Item.{Item}
use Rattle.shared.specs.Passes.{Shows}
use Rattle.session.specs.Rest.{Rest}
use Rattle.session.specs.declared.held.Held.{Held}
use Rattle.session.specs.declared.held.Held.TheVariants.{Repairs}
use Rattle.store_c.specs.Plan.{HasPlan, IsNextPart, some_lost}

abbrev pub rest : List Item → Option Item → Rest
rest items last = record { items = items; last = last }

pub held_is : (r : Rest) (items : List Item) (last : Option Item) → r.items ≡ items → r.last ≡ last → Some (Repairs r) ≡ Some (Repairs (rest items last))
held_is r items last e h = ap₂ (λ i l. Some (Repairs (rest i l))) e h

-- a part without a remaining item is followed by the next one
pub next_of : (v : Shows) (items : List Item) (last : Option Item) (most status : ℕ) (counts : ℕ × ℕ) (w : Shows) (given : Option Held)
    → length items ≡ 0 → HasPlan (some_lost last most) last v (Some (Repairs (rest items last))) status counts w given → IsNextPart v items last most status counts w given
next_of v [] last most status counts w given none has = has
next_of v (item ∷ items) last most status counts w given none has = absurd (omega (arith, none))
