use Rattle.std.proofs.Common.{◌∙◌, refl, arith}
use Rattle.sealed.proofs.Whole.{sized, nothing_lost}
use Rattle.sealed.proofs.sealing.seal_copy.Goals as goal

pub invariant_of-result : goal.invariant_of-result
invariant_of-result c =
    record {
      shaped = record {
        wide = c.stripes_of_copy.ensures.wide;
        count = c.in_ok-stripes.ensures.ok.counted ∙ c.in_ok-count.ensures.few.0;
        few = omega (arith, c.in_ok-stripes.ensures.ok.counted, c.in_ok-count.ensures.few.1);
        sized = sized c.in_ok-stripes.stripes c.args.code c.args.width c.args.bytes.now c.in_ok-count.count c.in_ok-stripes.ensures.ok;
      };
    }

pub returns-clause-ok : goal.returns-clause-ok
returns-clause-ok c =
    record {
      bytes = c.fits.ensures;
      length_is = refl;
      fragments = λ j f l inside.
          nothing_lost c.in_ok-stripes.stripes c.args.code c.args.width c.args.bytes.now c.in_ok-count.count c.in_ok-stripes.ensures.ok j f (omega (arith, l, c.in_ok-count.ensures.few.0)) inside;
    }
