use Rattle.std.proofs.Common.{◌≡◌, ℕ, List, length, refl}
use Rattle.rounds.specs.declared.halt.Halt.{Halt}
use Rattle.rounds.specs.declared.halt.Halt.TheVariants as halt
use Rattle.script.specs.declared.rows.Row.{Row}
use Rattle.play.specs.Paced.{HoldsBack}
use Rattle.play.specs.Progress.{HasRun, IsRowAt}
use Rattle.play.proofs.Pacing.{mend_held, passed_on}
use Rattle.play.proofs.Played.{makes_call, makes_mend, row_within}
use Rattle.play.proofs.rows.run_row.Goals as goal

pub returns-in_ok-push-in-Make-clause-run : goal.returns-in_ok-push-in-Make-clause-run
returns-in_ok-push-in-Make-clause-run g c = λ workers before rows at have run.
    makes_call c.args.store.now workers before c.args.number rows c.args.row c.in-Make.ask c.in_ok-pool.field-0 _ (c.in_ok-pool.ensures.begun workers before rows run) at have c.in-Make.is refl refl refl c.in_ok-push-in-Make.ensures.items

pub returns-in_ok-pool-in-Mend-clause-run : goal.returns-in_ok-pool-in-Mend-clause-run
returns-in_ok-pool-in-Mend-clause-run g c = λ workers before rows at have run.
    let mended = c.in_ok-pool-in-Mend.ensures in
    makes_mend c.args.store.now workers before c.args.number rows c.args.row c.in_ok-pool.field-0 _ (c.in_ok-pool.ensures.begun workers before rows run) at c.in-Mend.is mended.ready mended.many mended.acts mended.round refl

pub returns-in_err-pool-clause-paused : goal.returns-in_err-pool-clause-paused
returns-in_err-pool-clause-paused g c =
    let store = c.args.store.now in
    let may_answer = g.P.Pace.may_answer c.args.pace.now in
    passed_on c.from_residual.result c.in_err-pool.field-0.0
    (λ (why : Halt). why ≡ halt.Paused → (workers before : ℕ) (rows : List Row) → IsRowAt rows before c.args.number c.args.row → HasRun store workers rows before c.args.progress → HoldsBack may_answer (length rows))
    c.from_residual.ensures.1
    (λ e workers before rows at run. c.in_err-pool.ensures.paused e workers before (length rows) rows run (row_within rows before c.args.number c.args.row at).0)

pub returns-in_err-pool-in-Mend-clause-paused : goal.returns-in_err-pool-in-Mend-clause-paused
returns-in_err-pool-in-Mend-clause-paused g c =
    let store = c.args.store.now in
    let may_answer = g.P.Pace.may_answer c.args.pace.now in
    passed_on c.from_residual-in_err-pool-in-Mend.result c.in_err-pool-in-Mend.field-0.0
    (λ (why : Halt). why ≡ halt.Paused → (workers before : ℕ) (rows : List Row) → IsRowAt rows before c.args.number c.args.row → HasRun store workers rows before c.args.progress → HoldsBack may_answer (length rows))
    c.from_residual-in_err-pool-in-Mend.ensures.1
    (λ e workers before rows at run.
    let within = row_within rows before c.args.number c.args.row at in
    mend_held may_answer c.args.number (length rows) within.1 within.2 (c.in_err-pool-in-Mend.ensures.paused e))
