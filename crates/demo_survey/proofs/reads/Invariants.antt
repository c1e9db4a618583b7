use Rattle.std.proofs.Common.{ℕ, ◌*◌, ◌≤◌}
use Rattle.demo_survey.specs.Survey.{Adds, ReadsFor, is_counted}
use Rattle.demo_survey.proofs.reads.Given as goal

abbrev pub invariant-loop-set : goal.invariant-loop-set
invariant-loop-set l = record {
  adds : Adds (is_counted l.code l.size) (ReadsFor l.code) (λ (r : ℕ × ℕ). r.0) (λ (r : ℕ × ℕ). r.1) l.set l.total l.most;
  few : l.total ≤ 240 * l.set;
}
