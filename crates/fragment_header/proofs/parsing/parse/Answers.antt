use Rattle.std.proofs.Common.{◌≡◌, ◌∙◌, sym, true}
use Rattle.std.specs.Str.{bytes_eq}
use Rattle.std.proofs.lemmas.Slice.Eq.{bytes_eq-Decides}
use Rattle.fragment_header.specs.Page.{page_of}
use Rattle.fragment_header.specs.Fields.{IsSame}
use Rattle.fragment_header.proofs.Pages.{same_page}
use Rattle.fragment_header.proofs.parsing.parse.Goals as goal

pub returns-clause-exact : goal.returns-clause-exact
returns-clause-exact c = λ h a e.
    let s : IsSame c.in-Some.header h = c.in-Some.ensures h a e in
    let p : page_of c.in-Some.header ≡ page_of h = same_page c.in-Some.header h s in
    let q : c.as_slice.result.now ≡ c.args.page.now = c.as_slice.ensures.value ∙ c.in_ok-printed.ensures ∙ p ∙ sym e in
    let t : bytes_eq c.as_slice.result.now c.args.page.now ≡ true = (bytes_eq-Decides c.as_slice.result.now c.args.page.now).1 q in
    cc (t, c.if-eq.ensures)
