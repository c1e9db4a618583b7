use Rattle.std.proofs.Common.{◌≡◌, ℕ, ◌+◌, ◌-◌, ◌%◌, ◌∙◌, List, length, sym, ap, ap₂}
use Rattle.std.specs.Prelude.{slice_index_or}
use Rattle.std.proofs.lemmas.List.{get_or-drop, take_rest}
use Rattle.sealed.proofs.Changing.{both_ok}
use Rattle.sealed.proofs.Whole.{held_long, held_bytes}
use Rattle.sealed.proofs.padding.last_held.Goals as goal

pub returns-then-rest-eq0-clause-long : goal.returns-then-rest-eq0-clause-long
returns-then-rest-eq0-clause-long c =
    let none : length c.args.bytes.now % c.args.size ≡ 0 = ap (λ n. n % c.args.size) (sym c.len.ensures.value) ∙ c.if-rest-eq0.true in
    held_long c.args.size c.args.bytes.now c.new.result.items (λ some. absurd (some none)) (λ some i. absurd (some none))

pub returns-then-rest-eq0-clause-bytes : goal.returns-then-rest-eq0-clause-bytes
returns-then-rest-eq0-clause-bytes c =
    let none : length c.args.bytes.now % c.args.size ≡ 0 = ap (λ n. n % c.args.size) (sym c.len.ensures.value) ∙ c.if-rest-eq0.true in
    held_bytes c.args.size c.args.bytes.now c.new.result.items (λ some. absurd (some none)) (λ some i. absurd (some none))

pub returns-clause-bytes : goal.returns-clause-bytes
returns-clause-bytes c =
    let b : List ℕ = c.args.bytes.now in
    let size : ℕ = c.args.size in
    let from : c.len-2.result - c.len.result % size ≡ length b - length b % size =
    ap₂ (λ (n m : ℕ). n - m % size) c.len-2.ensures.value c.len.ensures.value in
    both_ok c.copy_padded.result _ _ _
    (λ filled long at.
    held_bytes size b filled.items (λ some. long)
    (λ some i.
    at.same i
    ∙ ap (λ (xs : List ℕ). slice_index_or xs i 0) (take_rest c.as_slice.result.now (c.len-2.result - c.len.result % size))
    ∙ get_or-drop (c.len-2.result - c.len.result % size) c.as_slice.result.now i 0
    ∙ ap₂ (λ (xs : List ℕ) (k : ℕ). slice_index_or xs (k + i) 0) c.as_slice.ensures from))
    c.copy_padded.ensures.long c.copy_padded.ensures.bytes
