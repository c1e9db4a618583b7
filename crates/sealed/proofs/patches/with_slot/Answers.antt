use Rattle.std.proofs.Common.{ℕ, List, Option, ◌∙◌, ap, arith}
use Rattle.std.specs.Prelude.{slice_set}
use Rattle.sealed.proofs.Changing.{all_but_one}
use Rattle.sealed.proofs.patches.with_slot.Goals as goal

pub returns : goal.returns
returns c =
    let copy = c.loop-g.copy in
    c.put-2.ensures ∙ ap (λ (slot : Option (List ℕ)). slice_set copy.fragments c.args.f slot) c.loop-g.invariant.slot
    ∙ all_but_one copy.fragments c.args.patches.now.fragments c.args.f c.args.slot copy.sixteen c.args.patches.now.sixteen c.requires (λ k h. c.loop-g.invariant.kept k (omega arith))
