-- Lists that are written block after block.
use Rattle.std.proofs.Common.{◌≡◌, ℕ, ◌+◌, ◌-◌, ◌<◌, ◌≤◌, List, ◌++◌, length, take, get_or, sym, ap, ◌∙◌, subst, arith, inl, inr, length-take-le, get_or-take}
use Rattle.std.proofs.lemmas.Bool.{cases_lt}
use Rattle.std.proofs.lemmas.List.{get_or_append_left, get_or-append-add}
use Rattle.kernels.specs.declared.lanes.TheConstants.{LANES}

-- a fact of each place that is written stays where the bytes stay, and holds of the next block
pub written_more : (P : ℕ → ℕ → Type 0) (old new : List ℕ) (done at : ℕ) → at ≤ done → ((k : ℕ) → k < done → P k (get_or old k 0)) → ((k : ℕ) → k < at → get_or new k 0 ≡ get_or old k 0)
    → ((k : ℕ) → k < LANES → P (at + k) (get_or new (at + k) 0)) → (k : ℕ) → k < at + LANES → P k (get_or new k 0)
written_more P old new done at order were same are k l =
    elim (cases_lt k at) [
      | inl below ↦ subst (P k) (sym (same k below)) (were k (omega arith))
      | inr from ↦
          let here : at + (k - at) ≡ k = omega arith in
          subst (λ j. P j (get_or new j 0)) here (are (k - at) (omega arith))
    ]

-- a part that is written between others
pub spliced : (old new post : List ℕ) (at end : ℕ) (P : ℕ → ℕ) → at ≤ length old → at ≤ end → length new ≡ end - at
    → ((k : ℕ) → k < at → get_or old k 0 ≡ P k) → ((j : ℕ) → j < end - at → get_or new j 0 ≡ P (at + j))
    → (k : ℕ) → k < end → get_or (take at old ++ (new ++ post)) k 0 ≡ P k
spliced old new post at end P inside order long before here k l =
    let front : length (take at old) ≡ at = length-take-le at old inside in
    elim (cases_lt k at) [
      | inl below ↦ get_or_append_left (take at old) (new ++ post) 0 k (omega (arith, front)) ∙ get_or-take at old k 0 below ∙ before k below
      | inr past ↦
          let j : ℕ = k - at in
          let is : length (take at old) + j ≡ k = omega (arith, front) in
          let is_at : at + j ≡ k = omega arith in
          sym (ap (λ n. get_or (take at old ++ (new ++ post)) n 0) is)
          ∙ get_or-append-add (take at old) (new ++ post) j 0
          ∙ get_or_append_left new post 0 j (omega (arith, long))
          ∙ here j (omega arith) ∙ ap P is_at
    ]
