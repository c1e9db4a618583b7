use Rattle.std.proofs.Common.{sym, leb-true}
use Rattle.lrc_code.specs.Code.{is_lost}
use Rattle.lrc_code.proofs.Stripes.{open_same}
use Rattle.std.proofs.lemmas.Bool.{le-leb}
use Rattle.demo_survey.proofs.is_whole.Goals as goal

pub returns-clause-unique : goal.returns-clause-unique
returns-clause-unique c =
    let few = c.excess_in.ensures.unique in (
      λ h f l o. few.0 (leb-true _ _ h) f l (open_same c.args.code (is_lost c.args.set) (is_lost c.of_bits.result) f (λ i m. sym (c.of_bits.ensures i)) o),
      λ h. le-leb _ _ (few.1 (λ f l o. h f l (open_same c.args.code (is_lost c.of_bits.result) (is_lost c.args.set) f (λ i m. c.of_bits.ensures i) o))),
    )
