use Rattle.std.proofs.Common.{◌≡◌, ◌∙◌, ℕ, ◌+◌, ◌≤◌, List, [], ◌∷◌, ◌++◌, length, ap, sym, subst, refl, arith, append_assoc, append-nil, length-append}
use Rattle.std.specs.Vec.Iter.{into_iter_items}
use Rattle.std.proofs.lemmas.Grind.{common_steps}
use Rattle.rounds.specs.declared.halt.Halt.{Halt}
use Rattle.rounds.specs.declared.halt.Halt.TheVariants as halt
use Rattle.script.specs.declared.rows.Row.{Row}
use Rattle.play.specs.Accounts.{IsPlayed, numbers_in}
use Rattle.play.specs.Paced.{HoldsBack}
use Rattle.play.specs.Progress.{AreReported, IsRowAt}
use Rattle.play.proofs.Pacing.{calls_held, passed_on}
use Rattle.play.proofs.Played.{made_last, run_none}
use Rattle.play.proofs.rows.run_rows.Given as given
use Rattle.play.proofs.rows.run_rows.Goals as goal
use Rattle.play.proofs.rows.run_rows.Goals.{In_ok-pool}

pub loop-row-init : goal.loop-row-init
loop-row-init g c = record {
  number = refl;
  all = grind (arith, common_steps);
  run = run_none c.args.store.now _ c.args.rows.items _ c.requires.ready refl c.requires.none.1 (grind (arith, common_steps)) (grind (arith, common_steps));
}

pub loop-row-preserved : goal.loop-row-preserved
loop-row-preserved g c =
    let inv = c.loop-row.invariant in
    let rows = c.args.rows.items in
    let row = c.in-Some.row in
    let yielded = c.loop-row.yielded in
    let rest = into_iter_items c.next.new.self in
    let all : rows ≡ yielded ++ row ∷ rest = inv.all ∙ ap (λ (l : List Row). yielded ++ l) c.in-Some.ensures.steps.0 in
    let long : length rows ≡ length yielded + length (row ∷ rest) = ap length all ∙ length-append yielded (row ∷ rest) in
    let next : c.saturating_add-number.result ≡ c.loop-row.number + 1 = omega (arith, long, inv.number, c.requires.few, c.saturating_add-number.ensures) in
    let at : IsRowAt rows c.loop-row.number c.saturating_add-number.result row = record { done = yielded; rest = rest; all = all; before_is = inv.number; number_is = next } in
    record {
      number = omega (arith, next, inv.number, length-append yielded (row ∷ []));
      all = all ∙ sym (append_assoc yielded (row ∷ []) rest);
      run = c.in_ok-progress.ensures.run (length c.args.pool.passes.items) c.loop-row.number rows at c.requires.workers inv.run;
    }

-- all rows have run, and each has one outcome
all_made : (g : given.Over) (c : In_ok-pool g) → IsPlayed c.args.store.now.width c.args.store.now.limit (length c.args.pool.passes.items) c.args.rows.items (length c.args.rows.items) c.in_ok-pool.pool.first.acts c.in_ok-pool.pool.first.did c.run_calls.new.done.items
    × AreReported (length c.args.rows.items) (numbers_in c.run_calls.new.done.items) []
all_made g c =
    let inv = c.loop-row.invariant in
    let store = c.args.store.now in
    let workers = length c.args.pool.passes.items in
    let rows = c.args.rows.items in
    let progress = c.loop-row.progress in
    let none : into_iter_items c.loop-row.row-iterator ≡ [] = grind (arith, common_steps) in
    let all : rows ≡ c.loop-row.yielded = inv.all ∙ ap (λ l. c.loop-row.yielded ++ l) none ∙ append-nil c.loop-row.yielded in
    let number : c.loop-row.number ≡ length rows = inv.number ∙ ap length (sym all) in
    let pool = c.in_ok-pool.pool in
    let made = made_last store.width store.limit workers rows progress.round c.loop-row.number progress.pool.first.acts pool.first.acts progress.pool.first.did pool.first.did progress.done.items c.run_calls.new.done.items
    (length progress.pool.passes.items) progress.calls.items inv.run.waits c.in_ok-pool.ensures.acts inv.run.many c.in_ok-pool.ensures.round in
    subst (λ (n : ℕ). IsPlayed store.width store.limit workers rows n pool.first.acts pool.first.did c.run_calls.new.done.items × AreReported n (numbers_in c.run_calls.new.done.items) []) number made

pub returns-clause-played : goal.returns-clause-played
returns-clause-played g c = (all_made g (goal.at.returns-clause-played g c).In_ok-pool).0

pub returns-clause-once : goal.returns-clause-once
returns-clause-once g c = λ k. let once = (all_made g (goal.at.returns-clause-once g c).In_ok-pool).1 k in omega (arith, once)

-- a run that was paused was held back at one of its rows
pub returns-in_err-progress-clause-paused : goal.returns-in_err-progress-clause-paused
returns-in_err-progress-clause-paused g c =
    let inv = c.loop-row.invariant in
    let rows = c.args.rows.items in
    let row = c.in-Some.row in
    let yielded = c.loop-row.yielded in
    let rest = into_iter_items c.next.new.self in
    let all : rows ≡ yielded ++ row ∷ rest = inv.all ∙ ap (λ (l : List Row). yielded ++ l) c.in-Some.ensures.steps.0 in
    let long : length rows ≡ length yielded + length (row ∷ rest) = ap length all ∙ length-append yielded (row ∷ rest) in
    let next : c.saturating_add-number.result ≡ c.loop-row.number + 1 = omega (arith, long, inv.number, c.requires.few, c.saturating_add-number.ensures) in
    let at : IsRowAt rows c.loop-row.number c.saturating_add-number.result row = record { done = yielded; rest = rest; all = all; before_is = inv.number; number_is = next } in
    passed_on c.from_residual.result c.in_err-progress.field-0.0 (λ (why : Halt). why ≡ halt.Paused → HoldsBack (g.P.Pace.may_answer c.args.pace.now) (length rows)) c.from_residual.ensures.1
    (λ e. c.in_err-progress.ensures.paused e (length c.args.pool.passes.items) c.loop-row.number rows at inv.run)

pub returns-in_err-pool-clause-paused : goal.returns-in_err-pool-clause-paused
returns-in_err-pool-clause-paused g c =
    let inv = c.loop-row.invariant in
    let progress = c.loop-row.progress in
    let many = length c.args.rows.items in
    let le : c.loop-row.number ≤ many = omega (arith, inv.number, ap length inv.all, length-append c.loop-row.yielded (into_iter_items c.loop-row.row-iterator)) in
    passed_on c.from_residual-in_err-pool.result c.in_err-pool.field-0.0 (λ (why : Halt). why ≡ halt.Paused → HoldsBack (g.P.Pace.may_answer c.args.pace.now) many) c.from_residual-in_err-pool.ensures.1
    (λ e. calls_held (g.P.Pace.may_answer c.args.pace.now) _ (length c.args.pool.passes.items) progress.round c.loop-row.number many c.args.rows.items progress.calls.items _ le inv.run.waits.are refl (c.in_err-pool.ensures.paused e))
