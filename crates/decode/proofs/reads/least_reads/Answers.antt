use Rattle.std.proofs.Common.{subst, ◌<◌, not}
use Rattle.std.specs.Prelude.{count_by}
use Rattle.lrc_code.specs.Code.{all_fragments}
use Rattle.decode.proofs.Least.{open_of_few}
use Rattle.decode.proofs.reads.least_reads.Goals as goal

pub returns-clause-least : goal.returns-clause-least
returns-clause-least c fewer f l here alone less =
    open_of_few c.args.code fewer f l here alone (subst (λ n. count_by (λ i. not (fewer i)) (all_fragments c.args.code) < n) c.data_fragments.ensures less)
