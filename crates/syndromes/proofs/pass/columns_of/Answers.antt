use Rattle.std.proofs.Common.{◌≡◌, ◌+◌, map, get_or, ap, ◌∙◌}
use Rattle.kernels.specs.Lists.{bytes_at}
use Rattle.kernels.proofs.GroupLemmas.{each_of_four, source_is}
use Rattle.one_pass.specs.declared.columns.Columns.{Columns}
use Rattle.one_pass.specs.Weights.{lane}
use Rattle.syndromes.proofs.pass.columns_of.Goals as goal

pub returns : goal.returns
returns c k h =
    let lists = c.args.lists.now in
    let columns : Columns = record { first = c.load.result; second = c.load-2.result; third = c.load-3.result; fourth = c.load-4.result } in
    each_of_four (λ e. lane columns k e ≡ bytes_at (map (λ s. s.now) lists) (c.args.at + k) e)
    (c.load.ensures.lanes k h ∙ ap (λ xs. get_or xs (c.args.at + k) 0) (source_is lists 0))
    (c.load-2.ensures.lanes k h ∙ ap (λ xs. get_or xs (c.args.at + k) 0) (source_is lists 1))
    (c.load-3.ensures.lanes k h ∙ ap (λ xs. get_or xs (c.args.at + k) 0) (source_is lists 2))
    (c.load-4.ensures.lanes k h ∙ ap (λ xs. get_or xs (c.args.at + k) 0) (source_is lists 3))
