use Rattle.std.proofs.Common.{◌≡◌, ℕ, ◌+◌, ◌*◌, ◌<◌, ◌∙◌, ◌++◌, List, [], length, min, sym, ap, subst, arith}
use Rattle.std.specs.Prelude.{slice_index_or, slice_range}
use Rattle.sealed.specs.Layout.{stripe_size}
use Rattle.sealed.specs.Packed.{ArePackedOf, AreParitiesOf}
use Rattle.std.proofs.lemmas.List.{length-append}
use Rattle.sealed.proofs.Ranges.{item_of_rest, range_after}
use Rattle.sealed.proofs.Whole.{packed_more}
use Rattle.sealed.proofs.sealing.copy_and_encode.Goals as goal

pub loop-j-preserved : goal.loop-j-preserved
loop-j-preserved c =
    let w : ℕ = c.args.w in
    let j : ℕ = c.loop-j.j in
    let code = c.args.code in
    let b : List ℕ = c.args.bytes.now in
    let blob : List ℕ = c.loop-j.blob.items in
    let parities : List ℕ = c.loop-j.parities.items in
    let padded = c.in_ok-push_padded.ensures in
    let more : List ℕ = padded.0 in
    let written = c.in_ok-push_parities.ensures in
    let four : List ℕ = written.0 in
    let size : c.from.result * w ≡ stripe_size code w = ap (λ n. n * w) (c.from.ensures ∙ c.data_fragments.ensures) in
    let start : ℕ = c.from.result * w * j in
    let begin : start ≡ stripe_size code w * j = ap (λ n. n * j) size in
    let long : length blob ≡ stripe_size code w * j = c.loop-j.invariant.blob_long in
    let inside : stripe_size code w * j < length b = c.requires.begin j c.loop-j-test.true in
    let ends : c.min-end.result ≡ min (length b) (start + c.from.result * w) = c.min-end.ensures in
    let held : slice_range c.deref.result.now start (length c.deref.result.now) ≡ more =
    ap (λ (xs : List ℕ). slice_range xs start (length xs)) (c.deref.ensures.value ∙ padded.3)
    ∙ range_after blob more start (length (blob ++ more)) (omega arith) (omega (arith, length-append blob more)) in
    let same : (i : ℕ) → i < stripe_size code w → slice_index_or more i 0 ≡ slice_index_or b (stripe_size code w * j + i) 0 =
    λ i l. padded.2.same i ∙ ap (λ n. slice_index_or (slice_range b start n) i 0) ends
    ∙ item_of_rest b start (start + c.from.result * w) i (omega arith) (omega arith)
    ∙ ap (λ n. slice_index_or b (n + i) 0) begin in
    let are : AreParitiesOf code w more four = subst (λ h. AreParitiesOf code w h four) held written.1 in
    let made : ArePackedOf code w b (blob ++ more) [] (parities ++ four) (j + 1) =
    packed_more code w b blob more parities four j long (padded.1 ∙ size) c.loop-j.invariant.parities_long same are c.loop-j.invariant.made in
    record {
      blob_long = ap length padded.3 ∙ omega (arith, length-append blob more, long, padded.1, size);
      parities_long = ap length written.2 ∙ omega (arith, length-append parities four, are.long, c.loop-j.invariant.parities_long);
      made = subst (λ xs. ArePackedOf code w b xs [] c.push_parities.new.parities.items (j + 1)) (sym padded.3)
          (subst (λ xs. ArePackedOf code w b (blob ++ more) [] xs (j + 1)) (sym written.2) made);
    }
