use Rattle.std.proofs.Common.{◌*◌, ◌≤◌, length}
use Rattle.lrc_code.specs.Code.{is_lost}
use Rattle.demo_survey.specs.Survey.{Adds, IsRead}
use Rattle.demo_survey.proofs.reads_for.Given as goal

abbrev pub invariant-loop-f : goal.invariant-loop-f
invariant-loop-f l = record {
  adds : Adds (is_lost l.set) (IsRead l.code (is_lost l.set)) length length l.f l.total l.most;
  few : l.total ≤ 15 * l.f;
}
