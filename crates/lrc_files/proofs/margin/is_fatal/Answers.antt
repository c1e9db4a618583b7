use Rattle.std.proofs.Common.{sym, ◌∙◌, inl, inr}
use Rattle.std.proofs.lemmas.Bool.{cases_Bool, not-true, not_from_false, false≢true}
use Rattle.lrc_files.proofs.margin.is_fatal.Goals as goal

pub returns-then-are_further : goal.returns-then-are_further
returns-then-are_further c =
    let code = c.args.code in
    let exact = c.is_recoverable.ensures in
    let further = c.are_further.ensures.0 c.if-are_further.true in (
      λ e. (
        λ i below more. (let (has, remains) = further i below (c.of_bits-2.ensures i ∙ more) in (has, sym (c.of_bits.ensures i) ∙ remains)),
        λ all. false≢true (sym (not-true c.is_recoverable.result e) ∙ exact.1 all),
      ),
      λ (_, fatal). elim (cases_Bool c.is_recoverable.result) [
        | inl can ↦ absurd (fatal (exact.0 can))
        | inr cannot ↦ not_from_false c.is_recoverable.result cannot
      ],
    )
