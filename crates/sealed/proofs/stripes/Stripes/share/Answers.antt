use Rattle.std.proofs.Common.{ap, ◌∙◌}
use Rattle.sealed.specs.Changes.{lost_at, patch_at, stripes_with}
use Rattle.sealed.proofs.WithChanges.{changed_alike}
use Rattle.sealed.proofs.stripes.Stripes.share.Goals as goal

pub returns : goal.returns
returns c =
    let s = c.self.inside in
    let t = c.in_ok-share-2.field-0 in
    ap (stripes_with (lost_at t) (patch_at t)) c.in_ok-share.ensures
    ∙ changed_alike (lost_at t) (lost_at s.changes) (patch_at t) (patch_at s.changes) s.packed c.in_ok-share-2.ensures.lost c.in_ok-share-2.ensures.patches ∙ c.self.view_is
