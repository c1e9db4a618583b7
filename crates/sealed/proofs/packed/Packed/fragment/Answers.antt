use Rattle.std.proofs.Common.{◌≡◌, ◌≤◌, ◌+◌, ◌-◌, ◌*◌, List, length, ℕ, Some, sym, ap, ap₂, ◌∙◌, arith}
use Rattle.std.specs.Prelude.{slice_range}
use Rattle.sealed.specs.Packed.{held_by, parities_by}
use Rattle.sealed.proofs.Packing.{blob_at, last_at, parities_at, stripe_holds, blob_here, parities_here_at}
use Rattle.sealed.proofs.Packing.{part_ends, begins_inside, parities_inside, part_inside, parities_long, first_seen, second_seen, none_seen}
use Rattle.sealed.proofs.packed.Packed.fragment.Goals as goal

pub held_in-held-requires : goal.held_in-held-requires
held_in-held-requires c =
    let p = c.self.inside in
    let begins = begins_inside p.code p.width (blob_at p) (last_at p) (parities_at p) p.count c.self.invariant c.args.self.now c.self.view_is c.args.j c.requires.j_below c.get-w.result c.from-data.result c.get-w.ensures.value (c.from-data.ensures ∙ c.data_fragments.ensures) in
    let blob = c.blob_in-blob.ensures ∙ blob_here p _ _ c.as_slice.ensures.value (stripe_holds p c.from-data.result c.get-w.result c.get-w.ensures.value (c.from-data.ensures ∙ c.data_fragments.ensures)) in
    omega (arith, ap length blob)

pub slice_bounds-result-end : goal.slice_bounds-result-end
slice_bounds-result-end c =
    let p = c.self.inside in
    let blob = c.blob_in-blob.ensures ∙ blob_here p _ _ c.as_slice.ensures.value (stripe_holds p c.from-data.result c.get-w.result c.get-w.ensures.value (c.from-data.ensures ∙ c.data_fragments.ensures)) in
    let held : c.held_in-held.result.now ≡ held_by (c.from-data.result * c.get-w.result) (blob_at p) (last_at p) c.args.j =
    c.held_in-held.ensures ∙ ap₂ (λ (b l : List ℕ). held_by (c.from-data.result * c.get-w.result) b l c.args.j) blob c.last_in.ensures in
    let ends = part_inside p.code p.width (blob_at p) (last_at p) (parities_at p) p.count c.self.invariant c.args.self.now c.self.view_is c.args.j c.requires.j_below c.get-w.result c.from-data.result c.get-w.ensures.value (c.from-data.ensures ∙ c.data_fragments.ensures) c.args.f c.if-f-data.true in
    omega (arith, ap length held)

pub returns-then-f-data : goal.returns-then-f-data
returns-then-f-data c =
    let p = c.self.inside in
    let blob = c.blob_in-blob.ensures ∙ blob_here p _ _ c.as_slice.ensures.value (stripe_holds p c.from-data.result c.get-w.result c.get-w.ensures.value (c.from-data.ensures ∙ c.data_fragments.ensures)) in
    let held : c.held_in-held.result.now ≡ held_by (c.from-data.result * c.get-w.result) (blob_at p) (last_at p) c.args.j =
    c.held_in-held.ensures ∙ ap₂ (λ (b l : List ℕ). held_by (c.from-data.result * c.get-w.result) b l c.args.j) blob c.last_in.ensures in
    ap (λ (xs : List ℕ). Some (slice_range xs (c.get-w.result * c.args.f) (c.get-w.result * c.args.f + c.get-w.result))) held
    ∙ sym (first_seen p.code p.width (blob_at p) (last_at p) (parities_at p) p.count c.self.invariant c.args.self.now c.self.view_is c.args.j c.requires.j_below c.get-w.result c.from-data.result c.get-w.ensures.value (c.from-data.ensures ∙ c.data_fragments.ensures) c.args.f c.if-f-data.true)

pub parities_in-parities-requires-clause-inside : goal.parities_in-parities-requires-clause-inside
parities_in-parities-requires-clause-inside c =
    let p = c.self.inside in
    let all = c.all_parities_in-all.ensures ∙ parities_here_at p _ _ c.as_slice-then-k-lt4.ensures.value (stripe_holds p c.from-data.result c.get-w.result c.get-w.ensures.value (c.from-data.ensures ∙ c.data_fragments.ensures)) in
    let ends = parities_inside p.code p.width (blob_at p) (last_at p) (parities_at p) p.count c.self.invariant c.args.self.now c.self.view_is c.args.j c.requires.j_below c.get-w.result c.from-data.result c.get-w.ensures.value (c.from-data.ensures ∙ c.data_fragments.ensures) in
    omega (arith, ap length all)

pub slice_bounds-result-end-then-k-lt4 : goal.slice_bounds-result-end-then-k-lt4
slice_bounds-result-end-then-k-lt4 c =
    let p = c.self.inside in
    let k : ℕ = c.args.f - c.from-data.result in
    let w : ℕ = c.get-w.result in
    let all = c.all_parities_in-all.ensures ∙ parities_here_at p _ _ c.as_slice-then-k-lt4.ensures.value (stripe_holds p c.from-data.result c.get-w.result c.get-w.ensures.value (c.from-data.ensures ∙ c.data_fragments.ensures)) in
    let long = parities_long p.code p.width (blob_at p) (last_at p) (parities_at p) p.count c.self.invariant c.args.self.now c.self.view_is c.args.j c.requires.j_below c.get-w.result c.from-data.result c.get-w.ensures.value (c.from-data.ensures ∙ c.data_fragments.ensures) in
    let same = ap length (c.parities_in-parities.ensures ∙ ap (λ (xs : List ℕ). parities_by w xs c.args.j) all) in
    let ends : w * k + w ≤ w * 4 = part_ends w k 4 c.if-k-lt4.true in
    omega arith

pub returns-then-k-lt4 : goal.returns-then-k-lt4
returns-then-k-lt4 c =
    let p = c.self.inside in
    let k : ℕ = c.args.f - c.from-data.result in
    let w : ℕ = c.get-w.result in
    let all = c.all_parities_in-all.ensures ∙ parities_here_at p _ _ c.as_slice-then-k-lt4.ensures.value (stripe_holds p c.from-data.result c.get-w.result c.get-w.ensures.value (c.from-data.ensures ∙ c.data_fragments.ensures)) in
    ap (λ (xs : List ℕ). Some (slice_range xs (w * k) (w * k + w))) (c.parities_in-parities.ensures ∙ ap (λ (xs : List ℕ). parities_by w xs c.args.j) all)
    ∙ sym (second_seen p.code p.width (blob_at p) (last_at p) (parities_at p) p.count c.self.invariant c.args.self.now c.self.view_is c.args.j c.requires.j_below c.get-w.result c.from-data.result c.get-w.ensures.value (c.from-data.ensures ∙ c.data_fragments.ensures) c.args.f (omega (arith, c.if-f-data.false)) c.if-k-lt4.true)

pub returns : goal.returns
returns c =
    let p = c.self.inside in
    sym (none_seen p.code p.width (blob_at p) (last_at p) (parities_at p) p.count c.self.invariant c.args.self.now c.self.view_is c.args.j c.requires.j_below c.get-w.result c.from-data.result c.get-w.ensures.value (c.from-data.ensures ∙ c.data_fragments.ensures) c.args.f (omega (arith, c.if-f-data.false)) (omega (arith, c.if-k-lt4.false)))
