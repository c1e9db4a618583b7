use Rattle.std.proofs.Common.{rules}
use Rattle.fragment_header.proofs.Pages.{found_is, no_code}
use Rattle.fragment_header.proofs.parsing.fields_of.Goals as goal

pub returns-in_default : goal.returns-in_default
returns-in_default c = no_code c.args.page.now c.in_default.ensures

pub returns : goal.returns
returns c =
    found_is c.args.page.now c.in-Some.code c.header_of.result c.from_le_bytes-width.result c.from_le_bytes-len.result c.copy_from_slice.new.self c.copy_from_slice-2.new.self
    c.in-Some.ensures c.from_le_bytes-width.ensures c.from_le_bytes-len.ensures (search rules) (search rules) c.header_of.ensures
