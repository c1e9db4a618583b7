use Rattle.std.proofs.Common.{◌<◌, ◌&&◌, ◌==◌, None, cond, length, sym, ap, ◌∙◌, arith}
use Rattle.std.proofs.lemmas.Result.{on_ok_weaker, on_err_weaker}
use Rattle.sealed.specs.Stripes.{Stripes, fragment_at}
use Rattle.sealed.specs.Changes.{lost_at, patch_at}
use Rattle.sealed.proofs.WithChanges.{changed_count, changed_lost, changed_alike}
use Rattle.sealed.proofs.stripes.Stripes.lose.Goals as goal

pub returns-clause-count : goal.returns-clause-count
returns-clause-count c =
    let s = c.self.inside in
    let t = c.lose.new.self in
    changed_count (lost_at t) (patch_at t) s.packed ∙ sym (changed_count (lost_at s.changes) (patch_at s.changes) s.packed) ∙ ap length c.self.view_is

pub returns-clause-ok : goal.returns-clause-ok
returns-clause-ok c =
    let s = c.self.inside in
    let t = c.lose.new.self in
    let below : c.args.j < length s.packed = omega (arith, c.requires.j_below, ap length c.self.view_is, changed_count (lost_at s.changes) (patch_at s.changes) s.packed) in
    on_ok_weaker c.lose.result
    (λ more i g.
    changed_lost (lost_at t) (lost_at s.changes) (patch_at t) (patch_at s.changes) s.packed s.packed c.args.j c.args.f below c.requires.f_below more c.lose.ensures.patches i g
    ∙ ap (λ (t : Stripes). cond ((i == c.args.j) && (g == c.args.f)) None (fragment_at t i g)) c.self.view_is)
    c.lose.ensures.ok

pub returns-clause-err : goal.returns-clause-err
returns-clause-err c =
    let s = c.self.inside in
    let t = c.lose.new.self in
    on_err_weaker c.lose.result
    (λ same. changed_alike (lost_at t) (lost_at s.changes) (patch_at t) (patch_at s.changes) s.packed same c.lose.ensures.patches ∙ c.self.view_is) c.lose.ensures.err
