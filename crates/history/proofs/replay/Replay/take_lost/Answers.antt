use Rattle.std.proofs.Common.{sym}
use Rattle.history.specs.Views.{taken}
use Rattle.history.proofs.Replaying.{changed_at, is_there, rise_with, without_pair}
use Rattle.history.proofs.replay.Replay.take_lost.Goals as goal

pub returns-in-Some-clause-views : goal.returns-in-Some-clause-views
returns-in-Some-clause-views c =
    changed_at c.args.self.now.names.entries _ c.args.self.now.puts c.args.name.now c.in-Some.kept.now _ (taken c.args.stripe c.args.f) (sym c.in-Some.ensures.value)
    ((c.get_mut.follows.holds (record { version = c.in-Some.kept.now.version; len = c.in-Some.kept.now.len; code = c.in-Some.kept.now.code; lost = c.remove.new.self })).3 (is_there _ _ c.in-Some.ensures.value)).0
    (without_pair c.in-Some.kept.now c.remove.new.self c.args.stripe c.args.f c.remove.result c.remove.ensures.updates c.remove.ensures.test c.remove.ensures.len)

pub returns-in-Some-clause-rising : goal.returns-in-Some-clause-rising
returns-in-Some-clause-rising c =
    let kept = c.in-Some.kept.now in
    let left = record kept { lost = c.remove.new.self } in
    rise_with c.args.self.now.names (c.get_mut.follows.lender left) c.args.name.now left
    ((c.get_mut.follows.holds left).3 (is_there _ _ c.in-Some.ensures.value)).0 c.remove.ensures.ordered
