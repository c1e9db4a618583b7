use Rattle.std.proofs.Common.{◌≡◌, Some, sym, ◌∙◌, arith}
use Rattle.std.proofs.lemmas.Bool.{true≢false}
use Rattle.lrc_code.specs.Code.{is_lost}
use Rattle.lrc_code.specs.declared.recipes.ParityCheck.{ParityCheck}
use Rattle.lrc_code.specs.declared.recipes.ParityCheck.TheVariants.{First, Second}
use Rattle.lrc_code.proofs.Recoverable.{open_here}
use Rattle.lrc_code.proofs.Checks.{determined_first, determined_second, one_in_first, one_in_second, one_group, alone_in_none}
use Rattle.lrc_code.proofs.Short.{short_first, short_second}
use Rattle.lrc_code.proofs.recipes.check_for.Goals as goal

pub returns-then-is_only_lost_of_first-clause-exact : goal.returns-then-is_only_lost_of_first-clause-exact
returns-then-is_only_lost_of_first-clause-exact c = (tt, determined_first _ _ _ c.requires.f_below (sym c.if-is_only_lost_of_first.ensures))

pub returns-then-is_only_lost_of_first-clause-second : goal.returns-then-is_only_lost_of_first-clause-second
returns-then-is_only_lost_of_first-clause-second c = (λ h. absurd (one_group _ _ _ c.requires.f_below (sym c.if-is_only_lost_of_first.ensures) h), λ e. absurd (cc e))

pub returns-then-is_only_lost_of_second-clause-exact : goal.returns-then-is_only_lost_of_second-clause-exact
returns-then-is_only_lost_of_second-clause-exact c = (tt, determined_second _ _ _ c.requires.f_below (sym c.if-is_only_lost_of_second.ensures))

pub returns-then-excess_in-gt2-clause-exact : goal.returns-then-excess_in-gt2-clause-exact
returns-then-excess_in-gt2-clause-exact c =
    open_here c.args.code (is_lost c.args.lost) c.args.f c.requires.f_below c.requires.f_lost (alone_in_none _ _ _ (sym c.if-is_only_lost_of_first.ensures) (sym c.if-is_only_lost_of_second.ensures)) (omega (arith, c.excess_in.ensures.value))

pub global_check-requires-clause-not_alone : goal.global_check-requires-clause-not_alone
global_check-requires-clause-not_alone c = alone_in_none _ _ _ (sym c.if-is_only_lost_of_first.ensures) (sym c.if-is_only_lost_of_second.ensures)

pub returns-then-is_only_lost_of_first-clause-short : goal.returns-then-is_only_lost_of_first-clause-short
returns-then-is_only_lost_of_first-clause-short c = short_first c.args.code (is_lost c.args.lost) c.args.f (sym c.if-is_only_lost_of_first.ensures)

pub returns-then-is_only_lost_of_second-clause-short : goal.returns-then-is_only_lost_of_second-clause-short
returns-then-is_only_lost_of_second-clause-short c = short_second c.args.code (is_lost c.args.lost) c.args.f (sym c.if-is_only_lost_of_second.ensures)

pub returns-then-is_only_lost_of_first-clause-one : goal.returns-then-is_only_lost_of_first-clause-one
returns-then-is_only_lost_of_first-clause-one c = one_in_first c.args.code (is_lost c.args.lost) c.args.f c.requires.f_below (sym c.if-is_only_lost_of_first.ensures)

pub returns-then-is_only_lost_of_second-clause-one : goal.returns-then-is_only_lost_of_second-clause-one
returns-then-is_only_lost_of_second-clause-one c = one_in_second c.args.code (is_lost c.args.lost) c.args.f c.requires.f_below (sym c.if-is_only_lost_of_second.ensures)

same_check : (v w : ParityCheck) → Some v ≡ Some w → v ≡ w
same_check v w e = cc

pub returns-clause-first : goal.returns-clause-first
returns-clause-first c =
    (λ h. absurd (true≢false (sym h ∙ sym c.if-is_only_lost_of_first.ensures)), λ e. absurd (c.global_check.ensures.global.0 (same_check c.global_check.result First e)))

pub returns-clause-second : goal.returns-clause-second
returns-clause-second c =
    (λ h. absurd (true≢false (sym h ∙ sym c.if-is_only_lost_of_second.ensures)), λ e. absurd (c.global_check.ensures.global.1 (same_check c.global_check.result Second e)))
