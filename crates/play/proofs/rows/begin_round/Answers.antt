use Rattle.std.proofs.Common.{◌≡◌, ℕ, ◌≤◌, List, arith, refl}
use Rattle.std.proofs.lemmas.Grind.{common_steps}
use Rattle.rounds.specs.declared.halt.Halt.{Halt}
use Rattle.rounds.specs.declared.halt.Halt.TheVariants as halt
use Rattle.script.specs.declared.rows.Row.{Row}
use Rattle.play.specs.Paced.{HoldsBack}
use Rattle.play.specs.Progress.{HasRun}
use Rattle.play.proofs.Pacing.{calls_held, passed_on}
use Rattle.play.proofs.Played.{ready_made}
use Rattle.play.proofs.rows.begin_round.Goals as goal

pub returns-then-goes_on-clause-begun : goal.returns-then-goes_on-clause-begun
returns-then-goes_on-clause-begun g c = λ workers before rows run. record {
  run = run;
  round = grind (arith, common_steps);
  mends = λ task. grind (arith, common_steps);
}

pub returns-clause-begun : goal.returns-clause-begun
returns-clause-begun g c = λ workers before rows run.
    let made = c.in_ok-pool.ensures in
    ready_made c.args.store.now workers before rows c.args.row.now c.args.progress _ run made.ready made.many made.acts made.round (grind (arith, common_steps)) refl

pub returns-in_err-pool-clause-paused : goal.returns-in_err-pool-clause-paused
returns-in_err-pool-clause-paused g c =
    let progress = c.args.progress in
    let store = c.args.store.now in
    let may_answer = g.P.Pace.may_answer c.args.pace.now in
    passed_on c.from_residual.result c.in_err-pool.field-0.0
    (λ (why : Halt). why ≡ halt.Paused → (workers before many : ℕ) (rows : List Row) → HasRun store workers rows before progress → before ≤ many → HoldsBack may_answer many)
    c.from_residual.ensures.1
    (λ e workers before many rows run le.
    calls_held may_answer _ workers progress.round before many rows progress.calls.items _ le run.waits.are refl (c.in_err-pool.ensures.paused e))
