use Rattle.std.proofs.Common.{◌<◌, length, sym, ap, ap₂, ◌∙◌, arith}
use Rattle.std.specs.Option.{option_map}
use Rattle.sealed.specs.Stripes.{Stripes, fragment_at}
use Rattle.sealed.specs.Changes.{lost_at, patch_at, slot_with}
use Rattle.sealed.proofs.WithChanges.{changed_count, changed_slot}
use Rattle.sealed.proofs.stripes.Stripes.fragment.Goals as goal

pub returns-then-is_lost : goal.returns-then-is_lost
returns-then-is_lost c =
    let s = c.self.inside in
    let below : c.args.j < length s.packed = omega (arith, c.requires.j_below, ap length c.self.view_is, changed_count (lost_at s.changes) (patch_at s.changes) s.packed) in
    sym (sym (ap (λ (t : Stripes). fragment_at t c.args.j c.args.f) c.self.view_is)
    ∙ changed_slot (lost_at s.changes) (patch_at s.changes) s.packed c.args.j c.args.f below c.requires.f_below
    ∙ ap (λ b. slot_with b (patch_at s.changes c.args.j c.args.f) (fragment_at s.packed c.args.j c.args.f)) (sym c.is_lost.ensures ∙ c.if-is_lost.true))

pub fragment-requires-clause-j_below : goal.fragment-requires-clause-j_below
fragment-requires-clause-j_below c =
    let s = c.self.inside in
    omega (arith, c.requires.j_below, ap length c.self.view_is, changed_count (lost_at s.changes) (patch_at s.changes) s.packed)

pub returns-in-Some : goal.returns-in-Some
returns-in-Some c =
    let s = c.self.inside in
    let below : c.args.j < length s.packed = omega (arith, c.requires.j_below, ap length c.self.view_is, changed_count (lost_at s.changes) (patch_at s.changes) s.packed) in
    let patch = sym c.patch.ensures ∙ ap (option_map (λ x. x.now)) c.in-Some.is in
    sym (sym (ap (λ (t : Stripes). fragment_at t c.args.j c.args.f) c.self.view_is)
    ∙ changed_slot (lost_at s.changes) (patch_at s.changes) s.packed c.args.j c.args.f below c.requires.f_below
    ∙ ap₂ (λ b p. slot_with b p (fragment_at s.packed c.args.j c.args.f)) (sym c.is_lost.ensures ∙ c.if-is_lost.false) patch)

pub returns-in-None : goal.returns-in-None
returns-in-None c =
    let s = c.self.inside in
    let below : c.args.j < length s.packed = omega (arith, c.requires.j_below, ap length c.self.view_is, changed_count (lost_at s.changes) (patch_at s.changes) s.packed) in
    let patch = sym c.patch.ensures ∙ ap (option_map (λ x. x.now)) c.in-None.is in
    c.fragment.ensures
    ∙ sym (sym (ap (λ (t : Stripes). fragment_at t c.args.j c.args.f) c.self.view_is)
    ∙ changed_slot (lost_at s.changes) (patch_at s.changes) s.packed c.args.j c.args.f below c.requires.f_below
    ∙ ap₂ (λ b p. slot_with b p (fragment_at s.packed c.args.j c.args.f)) (sym c.is_lost.ensures ∙ c.if-is_lost.false) patch)
