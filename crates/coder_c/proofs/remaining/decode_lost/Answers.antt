use Rattle.std.proofs.Common.{refl}
use Rattle.std.proofs.lemmas.Bool.{true≢false}
use Rattle.coder_c.proofs.Chosen.{none_has_open}
use Rattle.coder_c.proofs.remaining.decode_lost.Goals as goal

pub returns-then-are_alone-clause-open : goal.returns-then-are_alone-clause-open
returns-then-are_alone-clause-open c =
    (λ e. absurd (true≢false e), λ h. absurd (none_has_open c.args.code c.args.lost c.args.chosen c.requires.lost (c.if-are_alone.ensures refl) h))
