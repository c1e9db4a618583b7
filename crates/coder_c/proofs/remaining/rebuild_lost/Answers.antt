use Rattle.std.proofs.Common.{sym}
use Rattle.std.proofs.lemmas.Bool.{true≢false}
use Rattle.lrc_code.specs.Code.{is_lost}
use Rattle.lrc_code.proofs.Recoverable.{not_open_alone}
use Rattle.coder_c.proofs.remaining.rebuild_lost.Goals as goal

pub returns-then-is_alone_in-clause-open : goal.returns-then-is_alone_in-clause-open
returns-then-is_alone_in-clause-open c =
    (λ e. absurd (true≢false e), λ o. absurd (not_open_alone c.args.code (is_lost c.args.lost) c.args.f c.requires.lost.0 (sym c.if-is_alone_in.ensures) o))
