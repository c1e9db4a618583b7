use Rattle.std.proofs.Common.{sym}
use Rattle.history.specs.Views.{added}
use Rattle.history.proofs.Replaying.{changed_at, is_there, rise_with, with_pair}
use Rattle.history.proofs.replay.Replay.add_lost.Goals as goal

pub returns-clause-views : goal.returns-clause-views
returns-clause-views c =
    changed_at c.args.self.now.names.entries _ c.args.self.now.puts c.args.name.now c.in-Some.kept.now _ (added c.args.stripe c.args.f) (sym c.in-Some.ensures.value)
    ((c.get_mut.follows.holds (record { version = c.in-Some.kept.now.version; len = c.in-Some.kept.now.len; code = c.in-Some.kept.now.code; lost = c.insert.new.self })).3 (is_there _ _ c.in-Some.ensures.value)).0
    (with_pair c.in-Some.kept.now c.insert.new.self c.args.stripe c.args.f c.in-Ok.field-0 c.in-Ok.ensures.updates c.in-Ok.ensures.added c.in-Ok.ensures.len)

pub returns-clause-rising : goal.returns-clause-rising
returns-clause-rising c =
    let kept = c.in-Some.kept.now in
    let left = record kept { lost = c.insert.new.self } in
    rise_with c.args.self.now.names (c.get_mut.follows.lender left) c.args.name.now left
    ((c.get_mut.follows.holds left).3 (is_there _ _ c.in-Some.ensures.value)).0 c.insert.ensures.ordered
