-- Sums of syndromes, and the room that targets have for them.
use Rattle.std.specs.Prelude.{ℕ, ◌≤◌, List, Option, IfSome, length}
pub use Rattle.one_pass.specs.Syndromes.{list_byte, column_at, wide_syndrome, syndromes_at, HaveBytes}
pub use Rattle.one_pass.specs.Syndromes.{sum_by, HasSums}

-- where shares are given, the list has at least n bytes
abbrev pub HasRoom : Option (List ℕ) → ℕ → List ℕ → Type 0
HasRoom shares n bytes = IfSome shares (λ _. n ≤ length bytes)
