-- The numbers of a store in shards.
use Rattle.std.specs.Prelude.{◌≡◌, ℕ, ◌+◌, ◌-◌, Bool, List, length, MatchBool}
use Rattle.std.specs.FinMap as finite
use Rattle.std.specs.List.{sum_by}
use Rattle.lrc_code.specs.declared.Code.{Code}
use Rattle.lrc_code.specs.Code.{Open}
use Rattle.history.specs.History.{state_of}
use Rattle.book.specs.Plan.{plan_of}
use Rattle.book.specs.Numbers.{AreNumbersOf, capped, open_stripes, sum_of}
use Rattle.book.specs.Totals.{has_open}
use Rattle.book.specs.Trimming.{journaled}
use Rattle.book.specs.declared.numbers.Numbers.{Numbers}
use Rattle.shared.specs.Passes.{Shows}

-- the numbers of a shard, by what its pass shows
pub record AreNumbersAt (v : Shows) (n : Numbers) : Type 0 where
  pub holds : AreNumbersOf v.store.width v.seen n
  pub entries : n.entries ≡ journaled v.store.limit (length v.seen - v.trimmed)

-- each sum as a total is given: at most the largest number of 64 bits
abbrev pub capped_sum : Numbers → Numbers → Numbers
capped_sum a b = record {
  blobs = capped (a.blobs + b.blobs);
  bytes = capped (a.bytes + b.bytes);
  lost = capped (a.lost + b.lost);
  unrecoverable = capped (a.unrecoverable + b.unrecoverable);
  calls = capped (a.calls + b.calls);
  entries = capped (a.entries + b.entries);
}

-- The sums over all shards, of each by the history that its pass has seen. A stripe is counted as
-- unrecoverable if and only if one of its fragments is.
pub record AreSumsOfAll (vs : List Shows) (n : Numbers) : Type 0 where
  pub blobs : n.blobs ≡ capped (sum_by (λ v. length (finite.entries (state_of v.seen).names)) vs)
  pub bytes : n.bytes
      ≡ capped (sum_by (λ v. sum_of (λ blob. length blob.bytes) (state_of v.seen)) vs)
  pub lost : n.lost ≡ capped (sum_by (λ v. length (plan_of (state_of v.seen))) vs)
  pub unrecoverable : n.unrecoverable
      ≡ capped (sum_by (λ v. sum_of (open_stripes v.store.width) (state_of v.seen)) vs)
  pub decided : (code : Code) (lost : ℕ → Bool)
      → MatchBool (has_open code lost) ((f : ℕ) × Open code lost f) ((f : ℕ) → Open code lost f → ⊥)
  pub calls : n.calls ≡ capped (sum_by (λ v. length v.seen) vs)
  pub entries : n.entries
      ≡ capped (sum_by (λ v. journaled v.store.limit (length v.seen - v.trimmed)) vs)
