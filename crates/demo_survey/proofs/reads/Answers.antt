use Rattle.std.proofs.Common.{ℕ, ◌+◌, sym, ◌∙◌, subst, arith, max}
use Rattle.demo_survey.specs.Survey.{Adds, ReadsFor, is_counted}
use Rattle.demo_survey.proofs.Adding.{none, skip, more, ord_max-nat}
use Rattle.demo_survey.proofs.reads.Goals as goal
use Rattle.demo_survey.proofs.reads.Goals.{then-is_counted, else-is_counted}

pub loop-set-init : goal.loop-set-init
loop-set-init c = record { adds = none (is_counted c.args.code c.args.size) (ReadsFor c.args.code) (λ (r : ℕ × ℕ). r.0) (λ (r : ℕ × ℕ). r.1) (0, 0); few = omega arith }

pub reads_for-reads-requires : goal.reads_for-reads-requires
reads_for-reads-requires c = c.is_counted.ensures.recoverable c.if-is_counted.true

pub loop-set-preserved : goal.loop-set-preserved
loop-set-preserved c =
    let test = is_counted c.args.code c.args.size in
    let Fits = ReadsFor c.args.code in
    let size = λ (r : ℕ × ℕ). r.0 in
    let height = λ (r : ℕ × ℕ). r.1 in
    let set = c.loop-set.set in
    let before = c.loop-set.invariant in
    elim c.if-is_counted.branch [
      | then-is_counted w ↦
          let reads = w.reads_for-reads.result in
          let one_more = more test Fits size height set c.loop-set.total c.loop-set.most (reads.total, reads.most) (sym c.is_counted.ensures.value ∙ w.if-is_counted.true) w.reads_for-reads.ensures.reads before.adds in
          record {
            adds = subst (λ n. Adds test Fits size height (set + 1) c.if-is_counted.total n) (sym (w.most-is ∙ w.max-most.ensures ∙ ord_max-nat _ _))
                (subst (λ n. Adds test Fits size height (set + 1) n (max c.loop-set.most reads.most)) (sym w.total-is) one_more);
            few = omega (arith, before.few, w.reads_for-reads.ensures.few, w.total-is);
          }
      | else-is_counted w ↦ record {
        adds = subst (λ n. Adds test Fits size height (set + 1) c.if-is_counted.total n) (sym w.most-is)
            (subst (λ n. Adds test Fits size height (set + 1) n c.loop-set.most) (sym w.total-is) (skip test Fits size height set c.loop-set.total c.loop-set.most (sym c.is_counted.ensures.value ∙ w.if-is_counted.false) before.adds));
        few = omega (arith, before.few, w.total-is);
      }
    ]
