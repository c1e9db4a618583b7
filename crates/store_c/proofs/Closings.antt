-- A store that is closed.
use Rattle.std.proofs.Common.{◌≡◌, ℕ, ◌≤◌, [], Bool, true, false, Option, Some, None, cond, length, sym, subst, arith}
use Rattle.std.specs.Prelude.{nat_le}
use Rattle.book.specs.Contents.{Contents, journal_of}
use Rattle.shared.specs.Passes.{Shows}
use Rattle.session.specs.declared.held.Held.{Held}
use Rattle.session.specs.declared.held.Held.TheVariants.{Session}
use Rattle.store_c.specs.Status.{done}
use Rattle.store_c.specs.Journal.{IsClosedTo, IsCloseTo}

-- if the slot held the last session, and holds nothing now
pub closed_to : (old new : Option Held) (v : Shows) (number status : ℕ) (before after : ℕ × ℕ × ℕ) (given : Option Held) → old ≡ Some (Session v number) → new ≡ None → status ≡ done
    → IsClosedTo v after.0 after.1 after.2 given → IsCloseTo old status before after new given
closed_to old new v number status before after given was is done_is closed =
    subst (λ (h : Option Held). IsCloseTo h status before after new given) (sym was) (subst (λ (h : Option Held). IsCloseTo (Some (Session v number)) status before after h given) (sym is) (done_is, closed))

-- a journal has at most the entries since the base
pub kept_few : (b : Contents) → length (journal_of b) ≤ length b.entries
kept_few b = by (nat_le b.limit 1048576)
  where
    by : (t : Bool) → length (cond t b.entries []) ≤ length b.entries
    by true = omega arith
    by false = omega arith
