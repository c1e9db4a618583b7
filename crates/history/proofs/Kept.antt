-- Which entries are kept, by the limit.
use Rattle.std.proofs.Common.{◌≡◌, ℕ, ◌≤◌, ◌<◌, List, [], Bool, true, false, cond, refl, ap, length, arith}
use Rattle.std.specs.Prelude.{nat_le}
use Rattle.history.specs.declared.note.Entry.{Entry}
use Rattle.history.specs.Log.{kept_of}
use Rattle.history.proofs.Keeping.{le_of, is_le}

module _ (limit : ℕ) (entries : List Entry) where
  pub all_kept : limit ≤ 1048576 → kept_of limit entries ≡ entries
  all_kept few = ap (λ (t : Bool). cond t entries []) (is_le limit 1048576 few)

  pub has_journal : 0 < length (kept_of limit entries) → limit ≤ 1048576
  has_journal some = by (nat_le limit 1048576) refl some
    where
      by : (t : Bool) → nat_le limit 1048576 ≡ t → 0 < length (cond t entries []) → limit ≤ 1048576
      by true is some = le_of limit 1048576 is
      by false is some = absurd (omega (arith, some))
