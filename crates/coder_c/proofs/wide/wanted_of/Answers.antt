use Rattle.std.proofs.Common.{None, IsSomeAnd}
use Rattle.std.specs.Prelude.{slice_index_or}
use Rattle.kernels.proofs.GroupLemmas.{each_of_four}
use Rattle.lrc_code.specs.declared.Code.TheVariants.{Wide}
use Rattle.lrc_code.specs.Code.{is_lost, Open}
use Rattle.coder_c.proofs.PutBack.{none_open_given}
use Rattle.coder_c.proofs.wide.wanted_of.Goals as goal

pub returns-clause-open : goal.returns-clause-open
returns-clause-open c =
    let lost = c.args.lost in
    let chosen = c.args.chosen.now in (
      λ h. absurd (cc h),
      λ h. absurd (each_of_four (λ k. IsSomeAnd (slice_index_or chosen k None) (Open Wide (is_lost lost)) → ⊥)
          (none_open_given lost (slice_index_or chosen 0 None) c.in_ok-wanted_if.field-0 c.in_ok-wanted_if.ensures)
          (none_open_given lost (slice_index_or chosen 1 None) c.in_ok-wanted_if-2.field-0 c.in_ok-wanted_if-2.ensures)
          (none_open_given lost (slice_index_or chosen 2 None) c.in_ok-wanted_if-3.field-0 c.in_ok-wanted_if-3.ensures)
          (none_open_given lost (slice_index_or chosen 3 None) c.in_ok-wanted_if-4.field-0 c.in_ok-wanted_if-4.ensures)
          h.0 h.1 h.2),
    )
