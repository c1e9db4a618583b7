use Rattle.script.proofs.Retries.{keeps, keeps-both}
use Rattle.script.proofs.retried.RetriedRead.read.Goals as goal

pub loop-init : goal.loop-init
loop-init g c = keeps (g.R.Read.remaining c.args.self.now.reader)

pub loop-preserved : goal.loop-preserved
loop-preserved g c =
    keeps-both (g.R.Read.remaining c.args.self.now.reader) (g.R.Read.remaining c.loop.self.reader) (g.R.Read.remaining c.read.new.self) c.loop.invariant c.in-Err.ensures.bytes

pub returns-in_default-clause-bytes : goal.returns-in_default-clause-bytes
returns-in_default-clause-bytes g c =
    keeps-both (g.R.Read.remaining c.args.self.now.reader) (g.R.Read.remaining c.loop.self.reader) (g.R.Read.remaining c.read.new.self) c.loop.invariant c.in-Err.ensures.bytes
