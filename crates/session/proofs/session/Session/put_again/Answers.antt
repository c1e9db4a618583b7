use Rattle.std.proofs.Common.{◌≡◌, ℕ, List, Result, sym, subst}
use Rattle.lrc_code.specs.declared.Code.{Code}
use Rattle.sealed.specs.declared.fault.Fault.{Fault}
use Rattle.history.specs.Step.{put}
use Rattle.book.specs.declared.answer.Answer.{Answer}
use Rattle.shared.specs.Calls.{Called}
use Rattle.shared.specs.Passes.{Shows}
use Rattle.session.proofs.session.Session.put_again.Goals as goal
use Rattle.session.proofs.session.Session.put_again.Goals.{in-Ok-try_put_sealed, in-Err-try_put_sealed}

put_in : (v u w : Shows) (n : List ℕ) (code own : Code) (b : List ℕ) (r s : Result Answer Fault) → u ≡ v → own ≡ code → s ≡ r → Called u (put n own b) r w → Called v (put n code b) s w
put_in v u w n code own b r s same is result_is called =
    subst (λ (x : Shows). Called x (put n code b) s w) same
    (subst (λ (c : Code). Called u (put n c b) s w) is
    (subst (λ (x : Result Answer Fault). Called u (put n own b) x w) (sym result_is) called))

pub returns-clause-called : goal.returns-clause-called
returns-clause-called c =
    let v = c.args.self.now in
    let u = c.self.inside.pass in
    let w = c.try_put_sealed.new.pass in
    let b = c.args.refused.now in
    let is = c.in-Ok.ensures.sealing in
    elim c.match-try_put_sealed.branch [
      | in-Ok-try_put_sealed x ↦ put_in v u w c.args.name c.args.code c.in-Ok.sealed.code b _ _ c.self.view_is is.1 x.result-is (x.in-Ok-try_put_sealed.ensures.called b is.2)
      | in-Err-try_put_sealed x ↦ put_in v u w c.args.name c.args.code c.in-Ok.sealed.code b _ _ c.self.view_is is.1 x.result-is (x.in-Err-try_put_sealed.ensures.refused b)
    ]
