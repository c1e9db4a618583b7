use Rattle.std.proofs.Common.{◌≡◌, ◌+◌, [], true, false, sym, ap, ◌∙◌, subst, arith, length, max}
use Rattle.std.proofs.lemmas.Bool.{false≢true}
use Rattle.lrc_code.specs.Code.{is_lost}
use Rattle.demo_survey.specs.Survey.{Adds, IsRead}
use Rattle.demo_survey.proofs.Adding.{none, skip, more, true_from_ne_false, ord_max-nat}
use Rattle.demo_survey.proofs.reads_for.Goals as goal
use Rattle.demo_survey.proofs.reads_for.Goals.{then-not-left, else-not-left}

pub loop-f-init : goal.loop-f-init
loop-f-init c = record { adds = none (is_lost c.args.set) (IsRead c.args.code (is_lost c.args.set)) length length []; few = omega arith }

pub read_for-read-requires-clause-recoverable : goal.read_for-read-requires-clause-recoverable
read_for-read-requires-clause-recoverable c = c.requires c.loop-f.f (omega arith)

pub loop-f-preserved : goal.loop-f-preserved
loop-f-preserved c =
    let test = is_lost c.args.set in
    let Fits = IsRead c.args.code test in
    let f = c.loop-f.f in
    let before = c.loop-f.invariant in
    elim c.if-not-left.branch [
      | then-not-left w ↦
          let read = w.read_for-read.ensures.read in
          let lost_here : test f ≡ true = sym (c.of_bits-lost.ensures f) ∙ true_from_ne_false _ (λ e. false≢true (sym w.if-not-left.true ∙ c.left.ensures.1 e)) in
          let one_more = more test Fits length length f c.loop-f.total c.loop-f.most read.0 lost_here read.1 before.adds in
          record {
            adds = subst (λ n. Adds test Fits length length (f + 1) c.if-not-left.total n) (sym (w.most-is ∙ w.max-most.ensures ∙ ord_max-nat _ _ ∙ ap (max c.loop-f.most) read.2))
                (subst (λ n. Adds test Fits length length (f + 1) n (max c.loop-f.most (length read.0))) (sym (w.total-is ∙ ap (λ n. c.loop-f.total + n) read.2)) one_more);
            few = omega (arith, before.few, w.read_for-read.ensures.few, w.total-is);
          }
      | else-not-left w ↦
          let left_here : test f ≡ false = sym (c.of_bits-lost.ensures f) ∙ c.left.ensures.0 w.if-not-left.false in
          record {
            adds = subst (λ n. Adds test Fits length length (f + 1) c.if-not-left.total n) (sym w.most-is)
                (subst (λ n. Adds test Fits length length (f + 1) n c.loop-f.most) (sym w.total-is) (skip test Fits length length f c.loop-f.total c.loop-f.most left_here before.adds));
            few = omega (arith, before.few, w.total-is);
          }
    ]
