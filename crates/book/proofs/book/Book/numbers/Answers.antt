use Rattle.std.proofs.Common.{◌≡◌, ◌∙◌, ap, subst, length}
use Rattle.std.specs.List.Sorted.{IsStrictlySortedBy}
use Rattle.std.specs.Map.{keys_of}
use Rattle.history.specs.Names.{name_cmp}
use Rattle.book.specs.declared.totals.Totals.{Totals}
use Rattle.book.specs.Contents.{Contents}
use Rattle.book.specs.Losing.{Catalogue}
use Rattle.book.specs.Numbers.{capped}
use Rattle.book.specs.Totals.{totals_of}
use Rattle.book.proofs.Counting.{same_blobs, same_bytes, same_lost, same_unrecoverable, same_calls, open_decided}
use Rattle.book.proofs.book.Book.numbers.Goals as goal

pub returns-clause-holds : goal.returns-clause-holds
returns-clause-holds c h told =
    let book = c.args.self.now in
    let catalogue : c.self.inside.catalogue ≡ book.catalogue = ap (λ (s : Contents). s.catalogue) c.self.view_is in
    let P : Catalogue → Type 0 = λ entries. IsStrictlySortedBy name_cmp (keys_of entries) in
    let rises : IsStrictlySortedBy name_cmp (keys_of book.catalogue) = subst P catalogue c.len.ensures.rising in
    let totals : c.totals-totals.result ≡ totals_of book.catalogue = c.totals-totals.ensures ∙ ap totals_of catalogue in
    record {
      blobs = c.len.ensures.value ∙ ap (λ (es : Catalogue). length es) catalogue ∙ same_blobs book h rises told;
      bytes = c.cap.ensures ∙ ap capped (ap (λ (t : Totals). t.bytes) totals ∙ same_bytes book h rises told);
      lost = c.cap-2.ensures ∙ ap capped (ap (λ (t : Totals). t.lost) totals ∙ same_lost book h rises told);
      unrecoverable = c.cap-3.ensures ∙ ap capped (ap (λ (t : Totals). t.unrecoverable) totals ∙ same_unrecoverable book h rises told);
      decided = open_decided;
      calls = c.calls.ensures ∙ same_calls book h told;
    }
