use Rattle.std.proofs.Common.{◌≡◌, ◌++◌, ◌∷◌, rules}
use Rattle.history.proofs.Outlining.{copied_next}
use Rattle.history.proofs.replay.Replay.from_base.Goals as goal

pub loop-name-preserved-in-Ok : goal.loop-name-preserved-in-Ok
loop-name-preserved-in-Ok c =
    let whole : c.loop-name.names.entries ++ (c.in-Some.name.now, c.in-Some.kept.now) ∷ c.next.new.self ≡ c.base.inside.names.entries = search rules in
    copied_next _ _ _ _ _ _ _ _ c.base.invariant.1.0 whole c.in-Ok.ensures.entries c.duplicate-in-loop-name.ensures c.in_ok-kept.ensures.copy

pub loop-name-preserved-in-Ok-2 : goal.loop-name-preserved-in-Ok-2
loop-name-preserved-in-Ok-2 c =
    let whole : c.loop-name.names.entries ++ (c.in-Some.name.now, c.in-Some.kept.now) ∷ c.next.new.self ≡ c.base.inside.names.entries = search rules in
    copied_next _ _ _ _ _ _ _ _ c.base.invariant.1.0 whole c.in-Ok.ensures.entries c.duplicate-in-loop-name.ensures c.in_ok-kept.ensures.copy
