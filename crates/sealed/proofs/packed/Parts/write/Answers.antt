use Rattle.std.proofs.Common.{◌≡◌, ◌≢◌, ℕ, ◌+◌, ◌-◌, ◌*◌, ◌<◌, ◌≤◌, List, length, sym, ap, ◌∙◌, subst, arith}
use Rattle.std.specs.Prelude.{slice_range}
use Rattle.std.proofs.lemmas.Bool.{OnTrue_at, OnTrue_from}
use Rattle.lrc_code.specs.Code.{data_count}
use Rattle.sealed.specs.Layout.{stripe_size}
use Rattle.sealed.proofs.Apart.{blob_written, last_written, parities_written, parity_number}
use Rattle.sealed.proofs.Counting.{parity_count}
use Rattle.sealed.proofs.Packing.{part_ends}
use Rattle.sealed.proofs.packed.Parts.write.Goals as goal

pub put-requires : goal.put-requires
put-requires c =
    let w : ℕ = length c.args.bytes.now in
    let j : ℕ = c.args.j in
    let k : ℕ = c.args.f - c.from-data.result in
    let four = parity_count c.args.code in
    let few : k < 4 = omega (arith, c.requires.inside, c.from-data.ensures, c.data_fragments.ensures, c.if-f-data.true) in
    let ends : 4 * w * j + 4 * w ≤ 4 * w * c.requires.packed.0 = part_ends (4 * w) j c.requires.packed.0 c.requires.packed.1 in
    let inner : w * k + w ≤ w * 4 = part_ends w k 4 few in
    let number : 4 * w * j + w * k ≡ w * (4 * j + k) = parity_number w j k in
    let long : length c.args.self.now.parities ≡ 4 * w * c.requires.packed.0 = c.requires.packed.2.complete in
    omega arith

pub returns-then-f-data-clause-ok : goal.returns-then-f-data-clause-ok
returns-then-f-data-clause-ok c =
    OnTrue_from c.put.result _ (λ on count below.
    parities_written c.args.code (length c.args.bytes.now) c.args.self.now c.args.j c.args.f c.args.bytes.now c.put.new.self c.put.ensures.long (c.args.f - c.from-data.result)
    (omega (arith, c.from-data.ensures, c.data_fragments.ensures, c.if-f-data.true))
    (omega (arith, c.requires.inside, c.from-data.ensures, c.data_fragments.ensures, c.if-f-data.true, parity_count c.args.code))
    (OnTrue_at on c.put.ensures.here) (OnTrue_at on c.put.ensures.others) count)

pub returns-then-as_slice-size-clause-ok : goal.returns-then-as_slice-size-clause-ok
returns-then-as_slice-size-clause-ok c =
    let w : ℕ = length c.args.bytes.now in
    let size : c.from-data.result * w ≡ stripe_size c.args.code w = ap (λ n. n * w) (c.from-data.ensures ∙ c.data_fragments.ensures) in
    OnTrue_from c.put-then-as_slice-size.result _ (λ on count below.
    last_written c.args.code w c.args.self.now c.args.j c.args.f c.args.bytes.now c.put-then-as_slice-size.new.self c.put-then-as_slice-size.ensures.long
    (subst (λ n. length c.args.self.now.blob < n * c.args.j + n) size (omega (arith, c.if-as_slice-size.true, ap length c.as_slice.ensures)))
    (omega (arith, c.from-data.ensures, c.data_fragments.ensures, c.if-f-data.false))
    (OnTrue_at on c.put-then-as_slice-size.ensures.here) (OnTrue_at on c.put-then-as_slice-size.ensures.others) count below)

pub returns-clause-ok : goal.returns-clause-ok
returns-clause-ok c =
    let w : ℕ = length c.args.bytes.now in
    let size : c.from-data.result * w ≡ stripe_size c.args.code w = ap (λ n. n * w) (c.from-data.ensures ∙ c.data_fragments.ensures) in
    let counted : c.from-data.result ≡ data_count c.args.code = c.from-data.ensures ∙ c.data_fragments.ensures in
    let number : c.from-data.result * c.args.j + c.args.f ≡ data_count c.args.code * c.args.j + c.args.f = ap (λ n. n * c.args.j + c.args.f) counted in
    let begin : c.from-data.result * w * c.args.j < length c.args.self.now.blob = subst (λ n. n * c.args.j < length c.args.self.now.blob) (sym size) (c.requires.packed.2.begin c.args.j c.requires.packed.1) in
    let new : List ℕ = c.put-2.new.self in
    OnTrue_from c.put-2.result _ (λ on count below.
    blob_written c.args.code w c.args.self.now c.args.j c.args.f c.args.bytes.now new c.put-2.ensures.long
    (subst (λ n. n * c.args.j + n ≤ length c.args.self.now.blob) size (omega (arith, c.if-as_slice-size.false, ap length c.as_slice.ensures)))
    (omega (arith, counted, c.if-f-data.false))
    (subst (λ n. slice_range new (w * n) (w * n + w) ≡ c.args.bytes.now) number (OnTrue_at on c.put-2.ensures.here))
    (subst (λ n. (m : ℕ) → m ≢ n → slice_range new (w * m) (w * m + w) ≡ slice_range c.args.self.now.blob (w * m) (w * m + w)) number (OnTrue_at on c.put-2.ensures.others)) count)
