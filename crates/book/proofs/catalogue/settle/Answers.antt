use Rattle.std.proofs.Common.{◌∙◌, sym}
use Rattle.std.specs.BTreeSet.{contains}
use Rattle.history.specs.Names.{name_cmp}
use Rattle.book.proofs.Lacks.{taken_out, stays}
use Rattle.book.proofs.catalogue.settle.Goals as goal

pub returns-then-not-is_lacking : goal.returns-then-not-is_lacking
returns-then-not-is_lacking c =
    taken_out c.args.blobs.now.entries c.args.name.now (contains name_cmp c.args.lacking.now) c.requires.others (contains name_cmp c.remove.new.self) c.remove.ensures.updates.0
    (sym c.is_lacking.ensures ∙ c.if-not-is_lacking.true)

pub returns-else-not-is_lacking : goal.returns-else-not-is_lacking
returns-else-not-is_lacking c =
    stays c.args.blobs.now.entries c.args.name.now (contains name_cmp c.args.lacking.now) c.requires.others c.requires.own (sym c.is_lacking.ensures ∙ c.if-not-is_lacking.false)
