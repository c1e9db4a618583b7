use Rattle.std.proofs.Common.{◌≡◌, ◌+◌, ◌-◌, ◌*◌, ◌<◌, ◌/◌, ◌%◌, ◌≤◌, ℕ, Bool, true, false, List, Some, length, get_or, refl, sym, ap, ap₂, ◌∙◌, subst, arith}
use Rattle.std.specs.Prelude.{not}
use Rattle.std.specs.Option.{option_map}
use Rattle.std.proofs.lemmas.Bool.{eqb-true}
use Rattle.std.proofs.Math.Dec.{eqb}
use Rattle.lrc_code.specs.Code.{data_count}
use Rattle.lrc_code.specs.declared.Code.{Code}
use Rattle.lrc_code.specs.declared.Code.TheVariants.{Wide, Small}
use Rattle.lrc_code.specs.contracts.Code.{the_type}
use denote.Enum.Bare.{sameb}
use Rattle.sealed.specs.Layout.{stripe_size}
use Rattle.sealed.specs.Packed.{held_by}
use Rattle.sealed.specs.Stripes.{fragment_at}
use Rattle.sealed.proofs.Running.{held_at, last_below, packed_byte, packed_long}
use Rattle.sealed.proofs.Packing.{blob_at, last_at, parities_at, blob_here}
use Rattle.sealed.proofs.packed.Packed.run.Goals as goal

same_code : (a b : Code) → not (sameb the_type a b) ≡ false → a ≡ b
same_code Wide Wide e = refl
same_code Wide Small e = absurd (let no : true ≡ false = e in cc)
same_code Small Wide e = absurd (let no : true ≡ false = e in cc)
same_code Small Small e = refl

same_width : (a b : ℕ) (e : Bool) → eqb a b ≡ e → not e ≡ false → a ≡ b
same_width a b true is h = eqb-true a b is
same_width a b false is h = absurd (let wrong : true ≡ false = h in cc)

some_size : (d v : ℕ) (code : Code) → d ≡ data_count code → 1 ≤ v → 1 ≤ d * v
some_size d v Wide counted some = let e : d * v ≡ 12 * v = ap (λ n. n * v) counted in omega arith
some_size d v Small counted some = let e : d * v ≡ 6 * v = ap (λ n. n * v) counted in omega arith

pub run_in-requires-clause-hold : goal.run_in-requires-clause-hold
run_in-requires-clause-hold c =
    let p = c.self.inside in
    let d : ℕ = c.from.result in
    let v : ℕ = c.get.result in
    let code = same_code c.args.code p.code (sym c.ne.ensures ∙ c.if-ne.false) in
    let width = same_width c.args.width p.width (eqb c.args.width p.width) refl (sym c.ne-else-ne.ensures ∙ c.if-ne-2.false) in
    let counted : d ≡ data_count c.args.code = c.from.ensures ∙ c.data_fragments.ensures in
    let some = some_size d v c.args.code counted c.get.ensures.range.0 in
    let blob = c.blob_in-blob.ensures ∙ blob_here p _ _ c.as_slice.ensures.value (ap₂ (λ a b. a * b) (counted ∙ ap data_count code) (c.get.ensures.value ∙ width)) in
    let below = last_below (d * v) (stripe_size c.args.code c.args.width) (c.args.start + 1) (length c.args.self.now) (length c.args.self.now) some (omega arith)
    (ap₂ (λ a b. a * b) counted c.get.ensures.value) refl (omega (arith, c.requires.some, c.requires.inside)) in
    ap₂ (λ (b l : List ℕ). length (held_by (d * v) b l (c.args.start / (d * v)))) blob c.last_in.ensures
    ∙ packed_long p.code p.width (blob_at p) (last_at p) (parities_at p) p.count c.self.invariant c.args.self.now c.self.view_is v d (c.get.ensures.value ∙ width) (counted ∙ ap data_count code)
    (c.args.start / (d * v)) (subst (λ n. n / (d * v) < length c.args.self.now) (let e : c.args.start + 1 - 1 ≡ c.args.start = omega arith in e) below)

pub returns-clause-bytes : goal.returns-clause-bytes
returns-clause-bytes c i low =
    let p = c.self.inside in
    let d : ℕ = c.from.result in
    let v : ℕ = c.get.result in
    let k : ℕ = c.args.start + i in
    let code = same_code c.args.code p.code (sym c.ne.ensures ∙ c.if-ne.false) in
    let width = same_width c.args.width p.width (eqb c.args.width p.width) refl (sym c.ne-else-ne.ensures ∙ c.if-ne-2.false) in
    let counted : d ≡ data_count c.args.code = c.from.ensures ∙ c.data_fragments.ensures in
    let some = some_size d v c.args.code counted c.get.ensures.range.0 in
    let blob = c.blob_in-blob.ensures ∙ blob_here p _ _ c.as_slice.ensures.value (ap₂ (λ a b. a * b) (counted ∙ ap data_count code) (c.get.ensures.value ∙ width)) in
    let below = last_below (d * v) (stripe_size c.args.code c.args.width) (k + 1) (length c.args.self.now) (length c.args.self.now) some (omega arith)
    (ap₂ (λ a b. a * b) counted c.get.ensures.value) refl (omega (arith, c.requires.inside, c.run_in.ensures.few)) in
    sym (ap₂ (λ (n m : ℕ). option_map (λ x. get_or x (k % m) 0) (fragment_at c.args.self.now (k / (n * m)) ((k % (n * m)) / m))) counted c.get.ensures.value)
    ∙ packed_byte p.code p.width (blob_at p) (last_at p) (parities_at p) p.count c.self.invariant c.args.self.now c.self.view_is v d (c.get.ensures.value ∙ width) (counted ∙ ap data_count code)
    c.get.ensures.range.0 some k (subst (λ n. n / (d * v) < length c.args.self.now) (let e : k + 1 - 1 ≡ k = omega arith in e) below)
    ∙ ap (λ y. Some y) (sym (ap₂ (λ (b l : List ℕ). held_at b l (d * v) k) blob c.last_in.ensures) ∙ sym (c.run_in.ensures.bytes i low))
