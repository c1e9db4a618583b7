use Rattle.std.proofs.Common.{◌≡◌, ℕ, ◌<◌, ◌+◌, ◌-◌, length, take, get_or, sym, ap, ◌∙◌, arith, length-take-le, get_or-take}
use Rattle.std.proofs.lemmas.List.{length-set}
use Rattle.kernels.proofs.GroupLemmas.{nothing}
use Rattle.lrc_code.specs.declared.recipes.Term.{Term}
use Rattle.lrc_code.specs.Recipe.{recipe_sum}
use Rattle.lrc_code.specs.Stripe.{byte_at}
use Rattle.lrc_code.proofs.CombineLemmas.{set_more, All-take, no_term, fragment_at, maps_same}
use Rattle.lrc_code.proofs.rebuilding.apply_to.Goals as goal

pub loop-i-preserved : goal.loop-i-preserved
loop-i-preserved c =
    let i : ℕ = c.loop-i.i in
    let inside : i < length c.loop-i.sources = omega (arith, c.loop-i.invariant.count) in
    record {
      count = length-set c.loop-i.sources i c.part_of.result ∙ c.loop-i.invariant.count;
      long = set_more nothing (λ j s. length s.now ≡ c.args.to - c.args.from) c.loop-i.sources i c.part_of.result inside c.loop-i.invariant.long c.part_of.ensures.long;
      bytes = λ j k l h.
          set_more nothing (λ j s. get_or s.now k 0 ≡ byte_at c.args.left.now.fragments (c.args.from + k) (fragment_at c.as_slice-terms.result.now j)) c.loop-i.sources i c.part_of.result inside
          (λ j l. c.loop-i.invariant.bytes j k l h) (c.part_of.ensures.bytes k (omega (arith, c.part_of.ensures.long))) j l;
    }

pub combine_to-requires-clause-same : goal.combine_to-requires-clause-same
combine_to-requires-clause-same c =
    All-take (λ s. length s.now ≡ length c.args.bytes.now) c.loop-i.sources (length c.as_slice-terms.result.now) (omega (arith, c.loop-i.invariant.count))
    (λ j l. c.loop-i.invariant.long j (omega arith) ∙ sym c.requires.long)

pub returns : goal.returns
returns c k h =
    let n : ℕ = length c.as_slice-terms.result.now in
    let column : ℕ → ℕ = byte_at c.args.left.now.fragments (c.args.from + k) in
    c.combine_to.ensures k h column
    (maps_same (λ s. get_or s.now k 0) (λ (term : Term). column term.fragment) (take n c.loop-i.sources) c.as_slice-terms.result.now nothing no_term
    (length-take-le n c.loop-i.sources (omega (arith, c.loop-i.invariant.count)))
    (λ i l.
    ap (λ s. get_or s.now k 0) (get_or-take n c.loop-i.sources i nothing l)
    ∙ c.loop-i.invariant.bytes i k (omega arith) (omega (arith, c.requires.long, c.combine_to.auto.bytes))))
    ∙ ap (λ terms. recipe_sum terms column) c.as_slice-terms.ensures.value
