use Rattle.std.proofs.Common.{◌≡◌, ◌+◌, ◌<◌, ℕ, List, false, length, subst, arith}
use Rattle.std.specs.Prelude.{slice_range}
use Rattle.sealed.specs.declared.value.Sealed.{Sealed}
use Rattle.sealed.specs.Blob.{Lost}
use Rattle.sealed.specs.Runs.{is_absent_at}
use Rattle.sealed.specs.Sealed.{StandsFor}
use Rattle.session.proofs.WholeRun.{is_copy}
use Rattle.session.proofs.copying.whole_run.Goals as goal

pub returns-then-run-grant-clause-copy : goal.returns-then-run-grant-clause-copy
returns-then-run-grant-clause-copy c =
    let g = c.args.grant.now in
    let run = c.run-run.result.now in
    let e = c.run-run.ensures in
    let s = c.requires.stands in
    let sealed_is : c.deref-sealed.result.now ≡ g.sealed.value = c.deref-sealed.ensures in
    let long : length run ≡ g.len = omega (arith, c.if-run-grant.true) in
    is_copy g run long (subst (λ (x : Sealed). (i : ℕ) → i < length run → is_absent_at x (g.start + i) ≡ false) sealed_is e.present) s.0 s.1 s.2
    (subst (λ (x : Sealed). (b : List ℕ) (lost : Lost) → StandsFor x b lost → run ≡ slice_range b g.start (g.start + length run)) sealed_is e.bytes)
