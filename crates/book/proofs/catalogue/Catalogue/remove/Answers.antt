use Rattle.std.proofs.Common.{◌≡◌, ◌∙◌, ap, sym, subst, None}
use Rattle.book.specs.declared.totals.Totals.{Totals}
use Rattle.book.specs.Losing.{value_at}
use Rattle.book.specs.Totals.{DifferBy, share_at}
use Rattle.book.proofs.Summing.{differ_remove}
use Rattle.book.proofs.catalogue.Catalogue.remove.Goals as goal

pub replace-requires-clause-differ : goal.replace-requires-clause-differ
replace-requires-clause-differ c =
    let old = c.self.inside.blobs.entries in
    let new = c.remove-removed.new.self.entries in
    let before : c.of-before.result ≡ share_at (value_at old c.args.name.now) = c.of-before.ensures.value ∙ ap share_at (c.as_ref.ensures.value ∙ c.remove-removed.ensures.value) in
    let after : c.of.result ≡ share_at None = c.of.ensures.value in (
      old,
      c.self.invariant.1,
      subst (λ (t : Totals). DifferBy old new t c.of.result) (sym before) (subst (DifferBy old new (share_at (value_at old c.args.name.now))) (sym after) (differ_remove old c.args.name.now new c.remove-removed.ensures.entries)),
    )
