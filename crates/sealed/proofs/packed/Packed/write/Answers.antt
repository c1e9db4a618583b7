use Rattle.std.proofs.Common.{◌≡◌, ◌≢◌, ◌+◌, ◌*◌, ◌<◌, ◌≤◌, ◌&&◌, ◌==◌, ℕ, List, Some, cond, length, sym, ap, ◌∙◌, subst, arith}
use Rattle.std.specs.Prelude.{slice_range}
use Rattle.std.proofs.lemmas.Bool.{OnTrue_at, OnTrue_from}
use Rattle.lrc_code.specs.Code.{data_count, fragment_count}
use Rattle.sealed.specs.Layout.{stripe_size}
use Rattle.sealed.specs.Packed.{ArePacked, IsWritten}
use Rattle.sealed.specs.Stripes.{Stripes, fragment_at}
use Rattle.sealed.specs.declared.packed.Parts.{Parts}
use Rattle.sealed.proofs.Counting.{parity_count}
use Rattle.sealed.proofs.Packing.{packed_count, part_ends, blob_at, last_at, parities_at}
use Rattle.sealed.proofs.Apart.{either, apart_view, are_apart, all_slots}
use Rattle.sealed.proofs.Joined.{full, still, written, joined_view, are_joined, are_back}
use Rattle.sealed.proofs.packed.Packed.write.Goals as goal

pub write_joined-requires : goal.write_joined-requires
write_joined-requires c =
    let p = c.self.inside in
    let v : ℕ = length c.args.bytes.now in
    let d : ℕ = data_count p.code in
    let none = c.in-None.is in
    let wide : v ≡ p.width = omega (arith, c.if-bytes-w.false, c.get-w.ensures.value) in
    let some : 1 ≤ p.width = omega (arith, c.get-w.ensures.value, c.get-w.ensures.range.0) in
    let below : c.args.j < p.count = omega (arith, c.requires.j_below, ap length c.self.view_is, packed_count p.code p.width (blob_at p) (last_at p) (parities_at p) p.count) in
    let are = are_joined p.code p.width some p.count (λ a. a.value) p.parts none p.joined.items c.self.invariant in
    let long = full p.code p.width some p.count p.joined.items are c.args.j below in
    let inside : c.args.f < d + 4 = omega (arith, c.if-f-data.false, c.from-data.ensures, c.data_fragments.ensures) in
    let ends : v * c.args.f + v ≤ v * (d + 4) = part_ends v c.args.f (d + 4) inside in
    let all : v * (d + 4) ≡ d * p.width + 4 * p.width = ap (λ n. n * (d + 4)) wide ∙ (let e : p.width * (d + 4) ≡ d * p.width + 4 * p.width = omega arith in e) in
    omega arith

pub invariant_of-self-in-None : goal.invariant_of-self-in-None
invariant_of-self-in-None c =
    let p = c.self.inside in
    let none = c.in-None.is in
    let some : 1 ≤ p.width = omega (arith, c.get-w.ensures.value, c.get-w.ensures.range.0) in
    let below : c.args.j < p.count = omega (arith, c.requires.j_below, ap length c.self.view_is, packed_count p.code p.width (blob_at p) (last_at p) (parities_at p) p.count) in
    let are = are_joined p.code p.width some p.count (λ a. a.value) p.parts none p.joined.items c.self.invariant in
    let new : List ℕ = c.write_joined.new.joined.items in
    are_back p.code p.width some p.count (λ a. a.value) p.parts none new
    (still p.code p.width some p.count p.joined.items are c.args.j below new c.write_joined.ensures.long)

pub returns-in-None-clause-count : goal.returns-in-None-clause-count
returns-in-None-clause-count c =
    let p = c.self.inside in
    let none = c.in-None.is in
    let some : 1 ≤ p.width = omega (arith, c.get-w.ensures.value, c.get-w.ensures.range.0) in
    let new : List ℕ = c.write_joined.new.joined.items in
    ap length (joined_view p.code p.width some p.count (λ a. a.value) p.parts none new)
    ∙ packed_count p.code p.width _ _ _ p.count
    ∙ sym (packed_count p.code p.width (blob_at p) (last_at p) (parities_at p) p.count) ∙ ap length c.self.view_is

pub returns-in-None-clause-ok : goal.returns-in-None-clause-ok
returns-in-None-clause-ok c i g =
    let p = c.self.inside in
    let v : ℕ = length c.args.bytes.now in
    let none = c.in-None.is in
    let wide : v ≡ p.width = omega (arith, c.if-bytes-w.false, c.get-w.ensures.value) in
    let some : 1 ≤ p.width = omega (arith, c.get-w.ensures.value, c.get-w.ensures.range.0) in
    let below : c.args.j < p.count = omega (arith, c.requires.j_below, ap length c.self.view_is, packed_count p.code p.width (blob_at p) (last_at p) (parities_at p) p.count) in
    let are = are_joined p.code p.width some p.count (λ a. a.value) p.parts none p.joined.items c.self.invariant in
    let four = parity_count p.code in
    let inside : c.args.f < fragment_count p.code = omega (arith, c.if-f-data.false, c.from-data.ensures, c.data_fragments.ensures, four) in
    let new : List ℕ = c.write_joined.new.joined.items in
    ap (λ (t : Stripes). fragment_at t i g) (joined_view p.code p.width some p.count (λ a. a.value) p.parts none new)
    ∙ written p.code p.width some p.count p.joined.items new are c.args.j c.args.f c.args.bytes.now below inside c.write_joined.ensures.long
    (subst (λ n. slice_range new (n * c.args.f) (n * c.args.f + n) ≡ c.args.bytes.now) wide c.write_joined.ensures.here)
    (subst (λ n. (m : ℕ) → m ≢ c.args.f → slice_range new (n * m) (n * m + n) ≡ slice_range p.joined.items (n * m) (n * m + n)) wide c.write_joined.ensures.others)
    i g
    ∙ ap (λ (t : Stripes). cond ((i == c.args.j) && (g == c.args.f)) (Some c.args.bytes.now) (fragment_at t i g))
    (sym (joined_view p.code p.width some p.count (λ a. a.value) p.parts none p.joined.items) ∙ c.self.view_is)

pub write_apart-requires-clause-packed : goal.write_apart-requires-clause-packed
write_apart-requires-clause-packed c =
    let p = c.self.inside in
    let old = c.in-Some.parts.value in
    let below : c.args.j < p.count = omega (arith, c.requires.j_below, ap length c.self.view_is, packed_count p.code p.width (blob_at p) (last_at p) (parities_at p) p.count) in
    let wide : p.width ≡ length c.args.bytes.now = omega (arith, c.if-bytes-w.false, c.get-w.ensures.value) in (
      p.count,
      below,
      subst (λ n. ArePacked p.code n old.blob old.last old.parities p.count) wide
          (are_apart (λ a. a.value) p.parts c.in-Some.parts c.in-Some.is p.code p.width p.count p.joined.items (stripe_size p.code p.width) c.self.invariant),
    )

pub invariant_of-self : goal.invariant_of-self
invariant_of-self c =
    let p = c.self.inside in
    let old = c.in-Some.parts.value in
    let new = c.write_apart.new.parts.value in
    let below : c.args.j < p.count = omega (arith, c.requires.j_below, ap length c.self.view_is, packed_count p.code p.width (blob_at p) (last_at p) (parities_at p) p.count) in
    let wide : length c.args.bytes.now ≡ p.width = omega (arith, c.if-bytes-w.false, c.get-w.ensures.value) in
    let are = are_apart (λ a. a.value) p.parts c.in-Some.parts c.in-Some.is p.code p.width p.count p.joined.items (stripe_size p.code p.width) c.self.invariant in
    either c.write_apart.result c.write_apart.ensures.ok c.write_apart.ensures.kept
    (λ written. (subst (λ n. IsWritten p.code n p.count c.args.j c.args.f c.args.bytes.now old new) wide (written p.count below)).still are)
    (λ kept. subst (λ (q : Parts). ArePacked p.code p.width q.blob q.last q.parities p.count) (sym kept) are)

pub returns-in-Some-clause-count : goal.returns-in-Some-clause-count
returns-in-Some-clause-count c =
    let p = c.self.inside in
    let new = c.write_apart.new.parts.value in
    packed_count p.code p.width new.blob new.last new.parities p.count
    ∙ sym (packed_count p.code p.width (blob_at p) (last_at p) (parities_at p) p.count) ∙ ap length c.self.view_is

pub returns-in-Some-clause-ok : goal.returns-in-Some-clause-ok
returns-in-Some-clause-ok c =
    let p = c.self.inside in
    let old = c.in-Some.parts.value in
    let new = c.write_apart.new.parts.value in
    let below : c.args.j < p.count = omega (arith, c.requires.j_below, ap length c.self.view_is, packed_count p.code p.width (blob_at p) (last_at p) (parities_at p) p.count) in
    let wide : length c.args.bytes.now ≡ p.width = omega (arith, c.if-bytes-w.false, c.get-w.ensures.value) in
    let are = are_apart (λ a. a.value) p.parts c.in-Some.parts c.in-Some.is p.code p.width p.count p.joined.items (stripe_size p.code p.width) c.self.invariant in
    let seen = apart_view (λ a. a.value) p.parts c.in-Some.parts c.in-Some.is p.code p.width p.count p.joined.items (stripe_size p.code p.width) in
    OnTrue_from c.write_apart.result _ (λ on i g.
    all_slots p.code p.width p.count c.args.j c.args.f c.args.bytes.now old new below are
    (subst (λ n. IsWritten p.code n p.count c.args.j c.args.f c.args.bytes.now old new) wide (OnTrue_at on c.write_apart.ensures.ok p.count below)) i g
    ∙ ap (λ (t : Stripes). cond ((i == c.args.j) && (g == c.args.f)) (Some c.args.bytes.now) (fragment_at t i g)) (sym seen ∙ c.self.view_is))
