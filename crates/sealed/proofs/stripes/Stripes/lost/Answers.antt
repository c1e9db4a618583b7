use Rattle.std.proofs.Common.{◌<◌, ◌&&◌, ltb, length, sym, ap, ◌∙◌, arith}
use Rattle.std.specs.Prelude.{is_none}
use Rattle.sealed.specs.Stripes.{Stripes, fragment_at}
use Rattle.sealed.specs.Changes.{lost_at, patch_at}
use Rattle.sealed.proofs.WithChanges.{changed_count, whole_slots}
use Rattle.sealed.proofs.stripes.Stripes.lost.Goals as goal

pub returns-then-is_whole : goal.returns-then-is_whole
returns-then-is_whole c f =
    let s = c.self.inside in
    let below : c.args.j < length s.packed = omega (arith, c.requires, ap length c.self.view_is, changed_count (lost_at s.changes) (patch_at s.changes) s.packed) in
    c.lost.ensures c.args.j f below
    ∙ sym (sym (ap (λ (t : Stripes). ltb f 16 && is_none (fragment_at t c.args.j f)) c.self.view_is)
    ∙ whole_slots (lost_at s.changes) (patch_at s.changes) s.packed c.args.j below c.if-is_whole.ensures.lost c.if-is_whole.ensures.patches f)
