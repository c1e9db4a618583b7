use Rattle.std.proofs.Common.{◌≡◌, ◌<◌, ◌+◌, ◌≤◌, ℕ, true, false, slice_index_or, sym, ◌∙◌, subst, inl, inr, arith}
use Rattle.std.proofs.lemmas.Bool.{cases_lt, false≢true}
use Rattle.lrc_code.specs.Code.{is_lost, Open}
use Rattle.fragment_files.specs.Needed.{is_marked, HasRecipe}
use Rattle.fragment_files.proofs.gathering.needed_for.Goals as goal

pub loop-f-preserved : goal.loop-f-preserved
loop-f-preserved c =
    let old = c.loop-f.invariant in
    let step = c.add_needed.ensures in
    let went = c.if-not-add_needed.false in
    let at = c.loop-f.f in
    let code = c.args.code in
    let lost = is_lost c.args.lost in
    let wanted = c.args.wanted.now in
    let needed = c.add_needed.new.needed in
    let here : is_marked wanted at ≡ true → is_marked wanted c.from.result ≡ true = subst (λ n. is_marked wanted n ≡ true) (sym c.from.ensures) in
    let there : is_marked wanted c.from.result ≡ true → is_marked wanted at ≡ true = subst (λ n. is_marked wanted n ≡ true) c.from.ensures in
    let last : (f : ℕ) → f < at + 1 → at ≤ f → at ≡ f = λ f below past. omega (arith, below, past) in
    record {
      count = c.type_inv.needed;
      closed = λ f below want gone opened. elim (cases_lt f at) [
        | inl less ↦ old.closed f less want gone opened
        | inr past ↦ let e = last f below past in
            false≢true (sym (step.lost.1 (here (subst (λ n. is_marked wanted n ≡ true) (sym e) want), subst (λ n. lost n ≡ true) (sym e) gone, subst (λ n. Open code lost n) (sym e) opened)) ∙ went)
      ];
      remaining = λ f below want there. elim (cases_lt f at) [
        | inl less ↦ step.before f (old.remaining f less want there)
        | inr past ↦ let e = last f below past in
            subst (λ n. is_marked needed n ≡ true) e (step.remaining (here (subst (λ n. is_marked wanted n ≡ true) (sym e) want)) (subst (λ n. lost n ≡ false) (sym e) there))
      ];
      recipes = λ f below want gone. elim (cases_lt f at) [
        | inl less ↦ (let (terms, is, all) = old.recipes f less want gone in (terms, is, λ k d inside. step.before (slice_index_or terms k d).fragment (all k d inside)))
        | inr past ↦ let e = last f below past in
            subst (λ n. HasRecipe code lost n needed) e (step.recipe went (here (subst (λ n. is_marked wanted n ≡ true) (sym e) want)) (subst (λ n. lost n ≡ true) (sym e) gone))
      ];
      no_more = λ i marked. elim (step.added i marked) [
        | inl before ↦ (let (f, below, want, needs) = old.no_more i before in (f, omega (arith, below), want, needs))
        | inr (want, needs) ↦ (at, omega arith, there want, needs)
      ];
    }
