use Rattle.std.proofs.Common.{ℕ, ◌<◌, ◌∙◌, List, subst, arith}
use Rattle.std.specs.Prelude.{All}
use Rattle.sealed.proofs.Whole.{sized, nothing_lost}
use Rattle.sealed.proofs.sealing.seal_as.Goals as goal

pub invariant_of-result : goal.invariant_of-result
invariant_of-result c =
    record {
      shaped = record {
        wide = c.all_stripes.ensures.wide;
        count = c.in_ok-stripes.ensures.ok.counted ∙ c.in_ok-count.ensures.few.0;
        few = omega (arith, c.in_ok-stripes.ensures.ok.counted, c.in_ok-count.ensures.few.1);
        sized = sized c.in_ok-stripes.stripes c.args.code c.args.width c.args.bytes c.in_ok-count.count c.in_ok-stripes.ensures.ok;
      };
    }

pub returns-clause-ok : goal.returns-clause-ok
returns-clause-ok c =
    record {
      bytes = subst (λ (l : List ℕ). All (λ x. x < 256) l) c.as_slice.ensures c.fits.ensures;
      length_is = c.len-len.ensures.value;
      fragments = λ j f l inside.
          nothing_lost c.in_ok-stripes.stripes c.args.code c.args.width c.args.bytes c.in_ok-count.count c.in_ok-stripes.ensures.ok j f (omega (arith, l, c.in_ok-count.ensures.few.0)) inside;
    }
