use Rattle.std.proofs.Common.{◌≡◌, ℕ, get_or, bit_xor, ap₂, ◌∙◌, arith}
use Rattle.one_pass.proofs.Written.{written_more}
use Rattle.syndromes.proofs.pass.write_sum.Goals as goal

pub whole-preserved : goal.whole-preserved
whole-preserved c =
    let before = c.whole.invariant in
    let at : ℕ = c.whole.at in
    record {
      inside = omega arith;
      long = omega (arith, before.long);
      done = written_more (λ k x. x ≡ bit_xor (get_or c.args.one.now k 0) (get_or c.args.other.now k 0)) c.whole.target c.store.new.target at at (omega arith) before.done c.store.ensures.before
          (λ k h. c.store.ensures.lanes k h ∙ c.sum_2.ensures k h ∙ ap₂ bit_xor (c.load.ensures.lanes k h) (c.load-in-whole.ensures.lanes k h));
    }
