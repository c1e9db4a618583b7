use Rattle.sealed.specs.declared.fault.Fault.TheVariants.{NoMemory}
use Rattle.book.specs.Holds.{IsCallFault}
use Rattle.shared.proofs.Snapshots.{has_version, has_fragments, fault_of, faults_are}
use Rattle.sharded.specs.Steps.{seen_for, width_for}
use Rattle.sharded.proofs.Versions.{has_no_blob_at}
use Rattle.sharded.proofs.makes.ShardedStoreWaitingSnapshots.snapshot.Goals as goal

pub returns-clause-called : goal.returns-clause-called
returns-clause-called g c = record { answer = c.read.result; called = c.read.ensures.called; listed = c.read.ensures.listed; held = c.snapshot_of.ensures }

pub returns-clause-version : goal.returns-clause-version
returns-clause-version g c = has_version c.read.result c.snapshot_of.result (seen_for c.read.new.pass.shards c.args.name) (width_for c.args.self.now.shards c.args.name) c.args.name c.snapshot_of.ensures c.read.ensures.grant

pub returns-clause-none : goal.returns-clause-none
returns-clause-none g c = has_no_blob_at c.read.result c.snapshot_of.result c.args.pass.now.shards c.read.new.pass.shards c.args.name c.snapshot_of.ensures c.read.ensures.called

pub returns-clause-known : goal.returns-clause-known
returns-clause-known g c =
    has_fragments c.snapshot_of.result (seen_for c.read.new.pass.shards c.args.name) (width_for c.args.self.now.shards c.args.name) c.args.name
    (has_version c.read.result c.snapshot_of.result (seen_for c.read.new.pass.shards c.args.name) (width_for c.args.self.now.shards c.args.name) c.args.name c.snapshot_of.ensures c.read.ensures.grant)

pub returns-clause-no_memory : goal.returns-clause-no_memory
returns-clause-no_memory g c = λ none. c.read.ensures.no_memory (fault_of c.read.result c.snapshot_of.result NoMemory c.snapshot_of.ensures none)

pub returns-clause-faults : goal.returns-clause-faults
returns-clause-faults g c = faults_are c.read.result c.snapshot_of.result IsCallFault c.snapshot_of.ensures c.read.ensures.faults
