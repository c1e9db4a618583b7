use Rattle.std.proofs.Common.{◌≡◌, ◌<◌, true, length, slice_index_or, slice_set, ap, sym, ◌∙◌, subst, inl, inr, arith}
use Rattle.std.proofs.lemmas.Bool.{cases_lt}
use Rattle.std.proofs.lemmas.List.{get_or_default, length-set}
use Rattle.lrc_code.specs.declared.recipes.Term.{Term}
use Rattle.fragment_files.specs.Needed.{is_marked}
use Rattle.fragment_files.proofs.Marks.{marks_it, keeps_marks, marks_no_other}
use Rattle.fragment_files.proofs.gathering.mark_all.Goals as goal

pub loop-term-init : goal.loop-term-init
loop-term-init c = record {
  count = c.told-needed;
  before = λ i marked. marked;
  all = λ k d below. absurd (omega (arith, below));
  added = λ i marked. inl marked;
}

pub loop-term-preserved : goal.loop-term-preserved
loop-term-preserved c =
    let old = c.loop-term.invariant in
    let terms = c.args.terms.now in
    let at = c.loop-term.term-index in
    let here = c.loop-term-test.true in
    let j = c.from.result in
    let first : Term = record { fragment = 0; coefficient = 0 } in
    let same : (d : Term) → j ≡ (slice_index_or terms at d).fragment = λ d. c.from.ensures ∙ ap (λ (t : Term). t.fragment) (get_or_default terms at first d here) in
    let inside : j < length c.loop-term.needed = omega (arith, same first, c.requires at first here, old.count) in
    record {
      count = length-set c.loop-term.needed j true ∙ old.count;
      before = λ i marked. keeps_marks c.loop-term.needed i j inside (old.before i marked);
      all = λ k d below. elim (cases_lt k at) [
        | inl less ↦ keeps_marks c.loop-term.needed (slice_index_or terms k d).fragment j inside (old.all k d less)
        | inr most ↦ let equal : at ≡ k = omega (arith, most, below) in
            subst (λ n. is_marked (slice_set c.loop-term.needed j true) (slice_index_or terms n d).fragment ≡ true) equal
            (subst (λ n. is_marked (slice_set c.loop-term.needed j true) n ≡ true) (same d) (marks_it c.loop-term.needed j inside))
      ];
      added = λ i marked. elim (marks_no_other c.loop-term.needed i j marked) [
        | inl had ↦ elim (old.added i had) [
          | inl before ↦ inl before
          | inr (k, d, below, e) ↦ inr (k, d, omega (arith, below), e)
        ]
        | inr e ↦ inr (at, first, omega arith, sym (same first) ∙ e)
      ];
    }

pub returns-clause-before : goal.returns-clause-before
returns-clause-before c = c.loop-term.invariant.before

pub returns-clause-all : goal.returns-clause-all
returns-clause-all c = λ k d below. c.loop-term.invariant.all k d (omega (arith, below, c.loop-term-test.false))

pub returns-clause-added : goal.returns-clause-added
returns-clause-added c = λ i marked. elim (c.loop-term.invariant.added i marked) [
  | inl before ↦ inl before
  | inr (k, d, below, e) ↦ inr (k, d, omega (arith, below, c.loop-term.auto.term-index-end), e)
]
