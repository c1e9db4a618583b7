use Rattle.std.proofs.Common.{◌<◌, ◌&&◌, ◌==◌, ℕ, Some, cond, length, sym, ap, ◌∙◌, arith}
use Rattle.std.specs.Prelude.{not}
use Rattle.sealed.specs.Stripes.{Stripes, fragment_at}
use Rattle.sealed.specs.Changes.{lost_at, patch_at}
use Rattle.sealed.proofs.WithChanges.{changed_count, changed_patched}
use Rattle.sealed.proofs.stripes.Stripes.patch.Goals as goal

pub returns-clause-count : goal.returns-clause-count
returns-clause-count c =
    let s = c.self.inside in
    let t = c.restore.new.self in
    changed_count (lost_at t) (patch_at t) s.packed ∙ sym (changed_count (lost_at s.changes) (patch_at s.changes) s.packed) ∙ ap length c.self.view_is

pub returns-clause-ok : goal.returns-clause-ok
returns-clause-ok c i g =
    let s = c.self.inside in
    let t = c.restore.new.self in
    let j : ℕ = c.args.j in
    let f : ℕ = c.args.f in
    let below : j < length s.packed = omega (arith, c.requires.j_below, ap length c.self.view_is, changed_count (lost_at s.changes) (patch_at s.changes) s.packed) in
    changed_patched (lost_at t) (lost_at s.changes) (patch_at t) (patch_at s.changes) s.packed s.packed j f below c.requires.f_below c.args.bytes
    (λ i g. c.restore.ensures.lost i g ∙ ap (λ b. not ((i == j) && (g == f)) && b) (c.set_patch.ensures.lost i g))
    (λ i g. c.restore.ensures.patches i g ∙ c.in_ok-set_patch.ensures.ok i g) i g
    ∙ ap (λ (t : Stripes). cond ((i == j) && (g == f)) (Some c.args.bytes) (fragment_at t i g)) c.self.view_is
