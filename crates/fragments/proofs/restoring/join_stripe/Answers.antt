use Rattle.std.proofs.Common.{rules, ◌≡◌, ◌*◌, ◌+◌, ◌<◌, ◌≤◌, ℕ, List, true, false, length, take, subst, sym, arith, inl, inr}
use Rattle.std.proofs.lemmas.Bool.{cases_lt}
use Rattle.lrc_code.specs.Code.{Open, data_count}
use Rattle.lrc_code.specs.Stripe.{Agrees, IsStripe, Rebuilds, is_absent}
use Rattle.fragments.specs.Data.{first_lists, HasLostData}
use Rattle.fragments.proofs.Joining.{one_more, whole_block, begins_inside}
use Rattle.fragments.proofs.restoring.join_stripe.Goals as goal

pub loop-f-preserved : goal.loop-f-preserved
loop-f-preserved c =
    let code = c.args.left.now.code in
    let fragments = c.args.left.now.fragments in
    let had : c.block_to.result ≡ true = search (rules, c.if-not-block_to.false) in
    record {
      long = search;
      joined = λ s h a.
          let d : take (c.from.result * c.args.width) c.loop-f.target ≡ first_lists s c.loop-f.f = subst (λ m. take (m * c.args.width) c.loop-f.target ≡ first_lists s c.loop-f.f) (sym c.from.ensures) (c.loop-f.invariant.joined s h a) in
          let len : length c.block_to.new.target ≡ c.args.width = search (rules) in
          let r : Rebuilds code fragments c.loop-f.f 0 c.args.width c.block_to.new.target = search (rules, c.block_to.ensures.ok, had) in
          let e : c.block_to.new.target ≡ s c.loop-f.f = whole_block s c.loop-f.f c.args.width c.block_to.new.target code fragments r h a (omega (arith, c.loop-f-test.true, c.data_fragments-f-end.ensures)) in
          let n : (c.loop-f.f + 1) * c.args.width ≡ c.from.result * c.args.width + length c.block_to.new.target = grind (arith, c.from.ensures, len) in
          let b : c.from.result * c.args.width ≤ length c.loop-f.target = begins_inside c.from.result c.loop-f.f (data_count code) c.args.width (length c.loop-f.target) c.from.ensures (omega (arith, c.loop-f-test.true, c.data_fragments-f-end.ensures)) c.loop-f.invariant.long in
          one_more s c.loop-f.f (c.from.result * c.args.width) _ _ c.loop-f.target c.block_to.new.target d e n b;
      none = λ g l absent is_open.
          elim (cases_lt g c.loop-f.f) [
            | inl below ↦ c.loop-f.invariant.none g below absent is_open
            | inr past ↦
                let e : g ≡ c.loop-f.f = omega arith in
                let gone : c.block_to.result ≡ false = c.block_to.ensures.lost.1 (subst (λ i. is_absent fragments i ≡ true) e absent, subst (λ i. Open code (is_absent fragments) i) e is_open) in
                cc (had, gone)
          ];
    }

pub returns-clause-lost : goal.returns-clause-lost
returns-clause-lost c =
    (λ e. cc e, λ d. absurd (c.loop-f.invariant.none d.fragment (omega (arith, d.is_data, c.loop-f-test.false, c.data_fragments-f-end.ensures)) d.absent d.open_is))
