use Rattle.std.proofs.Common.{◌∙◌, ◌<◌, ◌/◌, ◌%◌, sym, ap, subst}
use Rattle.lrc_code.specs.Code.{data_count, Open}
use Rattle.sealed.specs.declared.value.Sealed.{Sealed}
use Rattle.sealed.specs.Layout.{stripe_count}
use Rattle.sealed.specs.Sealed.{absent_in}
use Rattle.sealed.proofs.Readable.{stripe_met, has_open}
use Rattle.lent.proofs.cut.part_at.Goals as goal

pub returns-clause-stripe : goal.returns-clause-stripe
returns-clause-stripe c =
    let g = c.args.grant.now in
    let s = g.sealed.value in
    let stripe = c.place_of-stripe.ensures.stripe ∙ ap (λ (t : Sealed). c.args.k / data_count t.code) c.deref-sealed.ensures in
    subst (λ n. n < stripe_count s.code s.width s.len) (sym stripe)
    (stripe_met s.code s.width s.shaped.wide g.start g.len c.args.k s.len (record { first = c.requires.first; last = c.requires.last }) g.inside)

pub returns-clause-closed : goal.returns-clause-closed
returns-clause-closed c opened =
    let g = c.args.grant.now in
    let s = g.sealed.value in
    let stripe = c.place_of-stripe.ensures.stripe ∙ ap (λ (t : Sealed). c.args.k / data_count t.code) c.deref-sealed.ensures in
    let fragment = c.place_of-stripe.ensures.fragment ∙ ap (λ (t : Sealed). c.args.k % data_count t.code) c.deref-sealed.ensures in
    g.readable (has_open s.code s.width s.shaped.wide g.start g.len (absent_in s) c.args.k (record { first = c.requires.first; last = c.requires.last })
    (subst (λ n. Open s.code (absent_in s n) (c.args.k % data_count s.code)) stripe
    (subst (λ f. Open s.code (absent_in s c.place_of-stripe.result.0) f) fragment opened)))
