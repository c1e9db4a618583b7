use Rattle.std.proofs.Common.{◌≡◌, ◌⊎◌, ap, ◌∙◌}
use Rattle.sealed.specs.declared.fault.Fault.{Fault}
use Rattle.sealed.specs.declared.fault.Fault.TheVariants.{NoMemory, Busy}
use Rattle.book.specs.Holds.{IsCallFault}
use Rattle.shared.specs.Snapshots.{version_held_by}
use Rattle.shared.proofs.Snapshots.{has_version, has_fragments, fault_of, faults_are}
use Rattle.sharded.specs.Steps.{seen_for, width_for}
use Rattle.sharded.proofs.Versions.{has_no_blob_at}
use Rattle.sharded.proofs.makes.ShardedStoreTrySnapshots.try_snapshot.Goals as goal

pub returns-clause-called : goal.returns-clause-called
returns-clause-called c = record { answer = c.try_read.result; called = c.try_read.ensures.called; listed = c.try_read.ensures.listed; held = c.snapshot_of.ensures }

pub returns-clause-version : goal.returns-clause-version
returns-clause-version c = has_version c.try_read.result c.snapshot_of.result (seen_for c.try_read.new.pass.shards c.args.name) (width_for c.args.self.now.shards c.args.name) c.args.name c.snapshot_of.ensures c.try_read.ensures.grant

pub returns-clause-none : goal.returns-clause-none
returns-clause-none c = has_no_blob_at c.try_read.result c.snapshot_of.result c.args.pass.now.shards c.try_read.new.pass.shards c.args.name c.snapshot_of.ensures c.try_read.ensures.called

pub returns-clause-known : goal.returns-clause-known
returns-clause-known c =
    has_fragments c.snapshot_of.result (seen_for c.try_read.new.pass.shards c.args.name) (width_for c.args.self.now.shards c.args.name) c.args.name
    (has_version c.try_read.result c.snapshot_of.result (seen_for c.try_read.new.pass.shards c.args.name) (width_for c.args.self.now.shards c.args.name) c.args.name c.snapshot_of.ensures c.try_read.ensures.grant)

pub returns-clause-no_memory : goal.returns-clause-no_memory
returns-clause-no_memory c = λ none. c.try_read.ensures.no_memory (fault_of c.try_read.result c.snapshot_of.result NoMemory c.snapshot_of.ensures none)

pub returns-clause-faults : goal.returns-clause-faults
returns-clause-faults c = faults_are c.try_read.result c.snapshot_of.result (λ (e : Fault). (e ≡ Busy) ⊎ IsCallFault e) c.snapshot_of.ensures c.try_read.ensures.faults

pub returns-clause-busy : goal.returns-clause-busy
returns-clause-busy c = λ busy. c.try_read.ensures.busy (fault_of c.try_read.result c.snapshot_of.result Busy c.snapshot_of.ensures busy)

pub returns-clause-entered : goal.returns-clause-entered
returns-clause-entered c = λ free. c.try_read.ensures.entered (λ busy. free (c.snapshot_of.ensures ∙ ap version_held_by busy))

pub returns-clause-lone : goal.returns-clause-lone
returns-clause-lone c = λ alone busy. c.try_read.ensures.lone alone (fault_of c.try_read.result c.snapshot_of.result Busy c.snapshot_of.ensures busy)
