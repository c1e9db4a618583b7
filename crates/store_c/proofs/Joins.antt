-- A session that is joined with what the other slot holds.
use Rattle.std.proofs.Common.{◌≡◌, ℕ, Option, Some, sym, subst}
use Rattle.shared.specs.Passes.{Shows}
use Rattle.session.specs.declared.held.Held.{Held}
use Rattle.session.specs.declared.held.Held.TheVariants.{Session}
use Rattle.store_c.specs.Sessions.{IsJoin, IsJoinCall}

-- if the other slot held a session
pub joined_with : (given new left : Option Held) (v x : Shows) (number theirs status : ℕ) → given ≡ Some (Session x theirs) → IsJoin v number x theirs status new left → IsJoinCall (Some (Session v number)) given status new left
joined_with given new left v x number theirs status was is =
    subst (λ (h : Option Held). IsJoinCall (Some (Session v number)) h status new left) (sym was) is
