use Rattle.sealed.specs.Changes.{lost_at, patch_at}
use Rattle.sealed.proofs.WithChanges.{changed_none}
use Rattle.sealed.proofs.stripes.Stripes.from_packed.Goals as goal

pub returns : goal.returns
returns c = changed_none (lost_at c.none.result) (patch_at c.none.result) c.args.packed c.sixteen.ensures c.none.ensures.lost c.none.ensures.patches
