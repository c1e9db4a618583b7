use Rattle.std.proofs.Common.{rules, ◌≡◌, ◌∙◌, List, ℕ}
use Rattle.fragment_header.specs.Page.{signed_bytes}
use Rattle.fragment_header.proofs.Pages.{page_is}
use Rattle.fragment_header.proofs.printing.print.Goals as goal

pub returns : goal.returns
returns c =
    let all : c.extend_from_slice.new.self.items ≡ signed_bytes c.args.header.now = search rules in
    c.in_ok-page.ensures ∙ page_is c.args.header.now c.extend_from_slice.new.self.items all
