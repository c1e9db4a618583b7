use Rattle.std.proofs.Common.{◌≡◌, ◌<◌, ◌&&◌, ◌==◌, ℕ, None, Some, true, false, Bool, cond, length, sym, ap, ◌∙◌, arith}
use Rattle.std.specs.Bool.{OnTrue}
use Rattle.std.specs.Option.{option_map}
use Rattle.sealed.specs.Stripes.{Stripes, fragment_at}
use Rattle.sealed.specs.Changes.{lost_at, patch_at}
use Rattle.sealed.proofs.Joined.{none_by}
use Rattle.sealed.proofs.WithChanges.{changed_count, changed_written}
use Rattle.sealed.proofs.stripes.Stripes.write.Goals as goal

on_true : (b : Bool) (P : Type 0) → b ≡ true → OnTrue b P → P
on_true true P e h = h
on_true false P e h = absurd (let no : true ≡ false = sym e in cc)

pub write-requires-clause-j_below : goal.write-requires-clause-j_below
write-requires-clause-j_below c =
    let s = c.self.inside in
    omega (arith, c.requires.j_below, ap length c.self.view_is, changed_count (lost_at s.changes) (patch_at s.changes) s.packed)

pub returns-clause-count : goal.returns-clause-count
returns-clause-count c =
    let s = c.self.inside in
    let t = c.restore.new.self in
    changed_count (lost_at t) (patch_at t) c.write.new.self ∙ c.write.ensures.count
    ∙ sym (changed_count (lost_at s.changes) (patch_at s.changes) s.packed) ∙ ap length c.self.view_is

pub returns-clause-ok : goal.returns-clause-ok
returns-clause-ok c i g =
    let s = c.self.inside in
    let t = c.restore.new.self in
    let j : ℕ = c.args.j in
    let f : ℕ = c.args.f in
    let below : j < length s.packed = omega (arith, c.requires.j_below, ap length c.self.view_is, changed_count (lost_at s.changes) (patch_at s.changes) s.packed) in
    let empty = none_by c.patch.result (sym c.is_some.ensures ∙ c.if-is_some.false) in
    let none : patch_at s.changes j f ≡ None = sym c.patch.ensures ∙ ap (option_map (λ x. x.now)) empty in
    changed_written (lost_at t) (lost_at s.changes) (patch_at t) (patch_at s.changes) c.write.new.self s.packed j f below c.requires.f_below c.args.bytes.now
    c.write.ensures.count none c.restore.ensures.lost c.restore.ensures.patches (on_true c.write.result _ c.if-not-write.false c.write.ensures.ok) i g
    ∙ ap (λ (t : Stripes). cond ((i == j) && (g == f)) (Some c.args.bytes.now) (fragment_at t i g)) c.self.view_is
