use Rattle.std.proofs.Common.{◌≡◌, ℕ, ◌+◌, ◌*◌, ◌<◌, ◌∙◌, List, length, sym, ap, ap₂, subst, arith}
use Rattle.std.specs.Prelude.{slice_index_or}
use Rattle.sealed.specs.Layout.{stripe_size, stripe_count}
use Rattle.sealed.specs.Packed.{packed, held_by, parities_by, AreParitiesOf, ArePackedOf, AreWhole}
use Rattle.sealed.proofs.Places.{stripe_begins}
use Rattle.sealed.proofs.Packing.{packed_alike}
use Rattle.sealed.proofs.Whole.{packed_whole}
use Rattle.sealed.proofs.sealing.all_stripes.Goals as goal

pub returns-clause-ok : goal.returns-clause-ok
returns-clause-ok c =
    let code = c.args.code in
    let w : ℕ = c.get-w.result in
    let b : List ℕ = c.args.bytes in
    let last : List ℕ = c.in_ok-last.last.items in
    let parities : List ℕ = c.in_ok-parities.parities.items in
    let wide : w ≡ c.args.width = c.get-w.ensures.value in
    let size : c.from.result * w ≡ stripe_size code w = ap (λ n. n * w) (c.from.ensures ∙ c.data_fragments.ensures) in
    let count : c.args.count ≡ stripe_count code w (length b) = c.requires.count.0 ∙ ap (λ n. stripe_count code n (length b)) (sym wide) in
    let begins : (j : ℕ) → j < c.args.count → stripe_size code w * j < length b =
    λ j l. stripe_begins code w c.get-w.ensures.range.0 j (length b) (omega arith) in
    let are : ArePackedOf code w b b last parities c.args.count = record {
      hold = λ j l. subst (λ n. (j : ℕ) → n * j < length b → length (held_by n b last j) ≡ n) size c.in_ok-last.ensures.long j (begins j l);
      same = λ j i l h.
          subst (λ n. (j i : ℕ) → n * j < length b → i < n → slice_index_or (held_by n b last j) i 0 ≡ slice_index_or b (n * j + i) 0) size c.in_ok-last.ensures.bytes j i (begins j l) h;
      encoded = λ j l.
          subst (λ h. AreParitiesOf code w h (parities_by w parities j)) (ap₂ (λ (x y : List ℕ). held_by (stripe_size code w) x y j) c.as_slice-2.ensures c.as_slice-3.ensures.value)
          (c.in_ok-parities.ensures.parities j l);
    } in
    let whole : AreWhole code c.args.width b c.args.count (packed code c.args.width b last parities c.args.count) =
    subst (λ n. AreWhole code n b c.args.count (packed code n b last parities c.args.count)) wide (packed_whole code w b b last parities c.args.count c.requires.bytes are) in
    subst (AreWhole code c.args.width b c.args.count)
    (sym (c.from_packed.ensures ∙ c.in_ok-packed.ensures ∙ packed_alike code c.args.width c.args.count c.shared.ensures c.own.ensures c.own-2.ensures)) whole
