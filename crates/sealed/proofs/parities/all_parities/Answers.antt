use Rattle.std.proofs.Common.{◌≡◌, ℕ, ◌*◌, ◌∙◌, List, length, sym, ap, subst, arith}
use Rattle.sealed.specs.Layout.{stripe_size}
use Rattle.sealed.specs.Packed.{held_by, parities_by, AreParitiesOf}
use Rattle.std.proofs.lemmas.List.{length-append}
use Rattle.sealed.proofs.Whole.{parities_more}
use Rattle.sealed.proofs.parities.all_parities.Goals as goal

pub loop-j-preserved : goal.loop-j-preserved
loop-j-preserved c =
    let w : ℕ = c.args.w in
    let j : ℕ = c.loop-j.j in
    let code = c.args.code in
    let old : List ℕ = c.loop-j.parities.items in
    let more = c.in_ok-push_parities.ensures in
    let four : List ℕ = more.0 in
    let held : ℕ → List ℕ = held_by (stripe_size code w) c.args.blob.now c.args.last.now in
    let size : c.from.result * w ≡ stripe_size code w = ap (λ n. n * w) (c.from.ensures ∙ c.data_fragments.ensures) in
    let here : c.held_in.result.now ≡ held j = c.held_in.ensures ∙ ap (λ n. held_by n c.args.blob.now c.args.last.now j) size in
    record {
      long = ap length more.2 ∙ omega (arith, length-append old four, more.1.long, c.loop-j.invariant.long);
      written = λ i l. subst (λ xs. AreParitiesOf code w (held i) (parities_by w xs i)) (sym more.2)
          (parities_more code w held old four j c.loop-j.invariant.long c.loop-j.invariant.written (subst (λ h. AreParitiesOf code w h four) here more.1) i l);
    }
