use Rattle.std.proofs.Common.{◌≡◌, ◌<◌, ◌⊎◌, ℕ, true, length, slice_index_or}
use Rattle.lrc_code.specs.declared.recipes.Term.{Term}
use Rattle.fragment_files.specs.Needed.{is_marked}
use Rattle.fragment_files.proofs.gathering.mark_all.Given as goal

abbrev pub invariant-loop-term : goal.invariant-loop-term
invariant-loop-term l = record {
  count : length l.needed ≡ 16;
  before : (i : ℕ) → is_marked l.fn.needed i ≡ true → is_marked l.needed i ≡ true;
  all : (k : ℕ) (d : Term) → k < l.term-index → is_marked l.needed (slice_index_or l.terms k d).fragment ≡ true;
  added : (i : ℕ) → is_marked l.needed i ≡ true → (is_marked l.fn.needed i ≡ true)
      ⊎ ((k : ℕ) × (d : Term) × (k < l.term-index) × ((slice_index_or l.terms k d).fragment ≡ i));
}
