use Rattle.history.specs.Metadata.{views_of}
use Rattle.history.proofs.Replaying.{deleted_at, hidden, rise_without, seen_in}
use Rattle.history.proofs.replay.Replay.apply.Goals as goal

pub returns-in-Deleted-clause-views : goal.returns-in-Deleted-clause-views
returns-in-Deleted-clause-views c =
    deleted_at c.args.entry.now (views_of c.args.self.now) c.in-Delete.name c.in-Deleted.field-0 (seen_in c.remove.new.self.entries) c.in-Delete.is c.in-Deleted.is
    (hidden c.args.self.now.names.entries c.remove.new.self.entries c.in-Delete.name c.remove.ensures.updates.0)

pub returns-in-Deleted-clause-rising : goal.returns-in-Deleted-clause-rising
returns-in-Deleted-clause-rising c = rise_without c.args.self.now.names c.remove.new.self c.in-Delete.name c.remove.ensures.updates.0
