use Rattle.shared.proofs.Looks.{whole_trim}
use Rattle.shared.proofs.store.Store.try_trim.Goals as goal

pub returns-clause-takes : goal.returns-clause-takes
returns-clause-takes c = whole_trim c.try_trim_part.result c.args.keep c.args.pass.now c.try_trim_part.new.pass c.try_trim_part.ensures.part c.try_trim_part.ensures.few c.try_trim_part.ensures.whole
