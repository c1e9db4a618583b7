use Rattle.mender.proofs.Judged.{exact_complete, exact_stranger, exact_twice, exact_missing}
use Rattle.mender.proofs.results.gather.Goals as goal

pub returns-clause-complete : goal.returns-clause-complete
returns-clause-complete c = rw c.deref.ensures.value at (exact_complete _ _ (λ _. Unit {0}) c.judge.result c.judge.ensures.err)

pub returns-clause-stranger : goal.returns-clause-stranger
returns-clause-stranger c = rw c.deref.ensures.value at (exact_stranger _ _ _ c.judge.result c.judge.ensures.ok c.judge.ensures.err)

pub returns-clause-twice : goal.returns-clause-twice
returns-clause-twice c = rw c.deref.ensures.value at (exact_twice _ _ _ c.judge.result c.judge.ensures.ok c.judge.ensures.err)

pub returns-clause-missing : goal.returns-clause-missing
returns-clause-missing c = rw c.deref.ensures.value at (exact_missing _ _ _ c.judge.result c.judge.ensures.ok c.judge.ensures.err)
