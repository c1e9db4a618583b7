use Rattle.std.proofs.Common.{sym, refl}
use Rattle.std.proofs.lemmas.Bool.{false≢true, true_from_ne_false}
use Rattle.lrc_code.proofs.Recoverable.{not_open_left, not_open_alone, open_by_excess}
use Rattle.lrc_code.proofs.open.is_open_in.Goals as goal
use Rattle.lrc_code.proofs.open.is_open_in.Goals.{then-left-via-then-left, then-left-via-else-left+then-is_alone_in}

pub returns-then-left : goal.returns-then-left
returns-then-left c = (
  λ h. absurd (false≢true h),
  λ o. absurd (elim c.then-left.branch [
    | then-left-via-then-left w ↦ not_open_left _ _ _ c.requires ((w.if-left.ensures).0 refl) o
    | then-left-via-else-left+then-is_alone_in w ↦ not_open_alone _ _ _ c.requires (sym (w.if-is_alone_in.ensures)) o
  ]),
)

pub returns : goal.returns
returns c = open_by_excess _ _ _ _ c.requires (true_from_ne_false _ (λ h. false≢true ((c.if-left.ensures).1 h))) (sym (c.if-is_alone_in.ensures)) c.excess_in.ensures.value
