use Rattle.std.proofs.Common.{◌≡◌, ◌<◌, ◌^◌, ◌∙◌, Some, cond, ap, sym, subst, arith}
use Rattle.std.specs.BTreeMap.{is_at}
use Rattle.std.specs.BTreeSet.{contains}
use Rattle.history.specs.Names.{name_cmp}
use Rattle.book.specs.declared.totals.Totals.{Totals}
use Rattle.book.specs.Losing.{value_at}
use Rattle.book.specs.Totals.{DifferBy, share_at, totals_of_blob}
use Rattle.book.proofs.Lacking.{none_lacked}
use Rattle.book.proofs.Lacks.{none_lacks, replaced}
use Rattle.book.proofs.Summing.{differ_insert}
use Rattle.book.proofs.catalogue.Catalogue.insert.Goals as goal

pub invariant_of-self-2 : goal.invariant_of-self-2
invariant_of-self-2 c = (
  replaced c.self.inside.blobs.entries c.insert.new.self.entries c.args.name.now (Some c.args.sealed.value) (contains name_cmp c.self.inside.lacking) (contains name_cmp c.remove.new.self)
      (none_lacks c.args.sealed.value (none_lacked c.args.sealed.value c.requires.0 c.requires.1))
      c.self.invariant.0
      (λ q. c.in_ok-replaced.ensures.updates.0 q ∙ (λ i. cond (is_at (name_cmp (c.duplicate.ensures i)) q) (Some (c.whole-stored.ensures i)) (value_at c.self.inside.blobs.entries q)))
      c.remove.ensures.updates.0,
  c.replace.ensures,
)

pub replace-requires-clause-differ : goal.replace-requires-clause-differ
replace-requires-clause-differ c =
    let old = c.self.inside.blobs.entries in
    let new = c.insert.new.self.entries in
    let n = c.duplicate.result in
    let s = c.whole-stored.result in
    let before : c.of-before.result ≡ share_at (value_at old n) = c.of-before.ensures.value ∙ ap share_at (c.as_ref.ensures.value ∙ c.in_ok-replaced.ensures.old) in
    let after : c.share-after.result ≡ totals_of_blob s = c.share-after.ensures.value in
    let few : s.len < 2 ^ 64 = omega (arith, c.share-after.ensures.share.0, ap (λ (t : Totals). t.bytes) after) in (
      old,
      c.self.invariant.1,
      subst (λ (t : Totals). DifferBy old new t c.share-after.result) (sym before)
          (subst (DifferBy old new (share_at (value_at old n))) (sym after) (differ_insert old n new s c.in_ok-replaced.ensures.was_ordered few c.in_ok-replaced.ensures.entries)),
    )
