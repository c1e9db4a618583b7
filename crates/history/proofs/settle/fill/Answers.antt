use Rattle.std.proofs.Common.{sym, ap, ◌∙◌}
use Rattle.std.specs.BTreeMap.{get, is_at}
use Rattle.history.specs.Names.{name_cmp}
use Rattle.history.proofs.Settling.{fill_step, placed_step}
use Rattle.history.proofs.settle.fill.Goals as goal

pub loop-name-preserved-in-Ok : goal.loop-name-preserved-in-Ok
loop-name-preserved-in-Ok c =
    let n = c.in-Some.name in
    let k = c.in-Some.kept in
    let old = c.loop-name.part in
    record {
      names = λ q. fill_step n q k _ _ _ _ (λ e. ap (get name_cmp old) (sym e) ∙ c.in-Some.ensures.value) (c.in-Some.ensures.updates.0 q) (c.in-Ok.ensures.updates.0 q) ∙ c.loop-name.invariant.names q;
      placed = λ q. placed_step (is_at (name_cmp n) q) k _ _ _ _ (c.in-Some.ensures.updates.0 q) (c.in-Ok.ensures.updates.0 q) (c.loop-name.invariant.placed q);
      ordered = λ h. c.insert.ensures.ordered;
    }
