use Rattle.std.proofs.Common.{rules, ◌≡◌, ◌<◌, ℕ, Ok, Err, Result, length, sym, subst, ◌∙◌}
use Rattle.std.specs.Prelude.{◌↔◌}
use Rattle.sealed.specs.declared.fault.Fault.{Fault}
use Rattle.sealed.specs.declared.fault.Fault.TheVariants.{TooLong}
use Rattle.sealed.specs.Layout.{stripe_count}
use Rattle.history.specs.Step.{put}
use Rattle.book.proofs.BlobBytes.{bytes_are}
use Rattle.requests.specs.declared.request.Request.{Request}
use Rattle.requests.specs.declared.request.Request.TheVariants.{Put}
use Rattle.named_calls.proofs.makes.Makes.prepare_put.Goals as goal

pub returns-clause-put : goal.returns-clause-put
returns-clause-put g c = λ i. put c.args.name (c.in_ok-sealed.ensures.shape.2 i) (bytes_are c.in_ok-sealed.sealed c.args.bytes c.in_ok-sealed.ensures.ok i)

pub returns-clause-can : goal.returns-clause-can
returns-clause-can g c = λ v. (c.in_ok-sealed.ensures.shape.1 ∙ sym (c.width.ensures c.args.name), (c.args.bytes, c.in_ok-sealed.ensures.ok))

pub returns-clause-refusals : goal.returns-clause-refusals
returns-clause-refusals g c = λ e. (λ is. is, λ is. is)

pub returns-clause-too_long : goal.returns-clause-too_long
returns-clause-too_long g c =
    let made : Result Request Fault = Ok (Put c.args.alloc c.args.name c.in_ok-sealed.sealed) in
    subst (λ (w : ℕ). (made ≡ Err TooLong) ↔ (4096 < stripe_count c.args.code w (length c.args.bytes))) (sym (c.width.ensures c.args.name)) (search rules)

pub returns-in_err-sealed-clause-too_long : goal.returns-in_err-sealed-clause-too_long
returns-in_err-sealed-clause-too_long g c =
    subst (λ (w : ℕ). (c.from_residual.result ≡ Err TooLong) ↔ (4096 < stripe_count c.args.code w (length c.args.bytes))) (sym (c.width.ensures c.args.name)) (search rules)
