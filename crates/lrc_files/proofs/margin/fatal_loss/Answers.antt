use Rattle.std.proofs.Common.{◌≡◌, ◌≤◌, bit_or, count_ones, sym, ◌∙◌, subst, refl, inl, inr, arith}
use Rattle.std.proofs.lemmas.Bool.{cases_lt}
use Rattle.lrc_files.specs.Margin.{AreFurther, IsRecoverable}
use Rattle.lrc_files.proofs.margin.fatal_loss.Goals as goal

pub loop-more-preserved : goal.loop-more-preserved
loop-more-preserved c =
    let old = c.loop-more.invariant in
    let step = c.least_with-least.ensures in
    let at = c.loop-more.more in
    let code = c.args.code in
    let lost = c.args.lost in
    record {
      most = omega (arith, old.most, step.lower);
      none = λ m below further fatal. elim (cases_lt m at) [
        | inl less ↦ omega (arith, step.lower, old.none m less further fatal)
        | inr past ↦
            let e : m ≡ at = omega (arith, below, past) in
            subst (λ n. c.least_with-least.result ≤ count_ones n) (sym e)
            (step.fatal (subst (AreFurther code lost) e further) (subst (λ n. IsRecoverable code (bit_or lost n) → ⊥) e fatal))
      ];
      some = λ less. elim step.one [
        | inl same ↦ (let (m, below, further, count, fatal) = old.some (omega (arith, same, less)) in (m, omega (arith, below), further, count ∙ sym same, fatal))
        | inr (further, count, fatal) ↦ (at, omega arith, further, count, fatal)
      ];
    }

all_sixteen : count_ones 65535 ≡ 16
unfolding lib.Count.ones
all_sixteen = refl

pub returns-clause-safe : goal.returns-clause-safe
returns-clause-safe c = λ more below further fewer f inside opened.
    let old = c.loop-more.invariant in
    elim (cases_lt more c.loop-more.more) [
      | inl less ↦ (let most = old.none more less further (λ all. all f inside opened) in omega (arith, most, fewer))
      | inr past ↦
          let e : more ≡ 65535 = omega (arith, below, past, c.loop-more-test.false) in
          let sixteen : count_ones more ≡ 16 = subst (λ n. count_ones n ≡ 16) (sym e) all_sixteen in
          omega (arith, sixteen, fewer, old.most)
    ]
