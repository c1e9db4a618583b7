use Rattle.std.proofs.Common.{◌≡◌, ◌∙◌, ap, subst, take}
use Rattle.std.specs.List.{flat_map}
use Rattle.std.specs.List.Sorted.{IsStrictlySortedBy}
use Rattle.std.specs.Map.{keys_of}
use Rattle.std.specs.Option.{option_map}
use Rattle.history.specs.Names.{name_cmp}
use Rattle.book.specs.Contents.{Contents}
use Rattle.book.specs.Losing.{Catalogue}
use Rattle.book.specs.Plan.{items_lacked, items_after}
use Rattle.book.proofs.Planning.{plan_is}
use Rattle.book.proofs.book.Book.plan_part.Goals as goal

pub returns : goal.returns
returns c h told =
    let catalogue : c.self.inside.catalogue ≡ c.args.self.now.catalogue = ap (λ (s : Contents). s.catalogue) c.self.view_is in
    let P : Catalogue → Type 0 = λ entries. IsStrictlySortedBy name_cmp (keys_of entries) in
    c.in_ok-items.ensures.value
    ∙ ap (λ items. take c.args.most (items_after (option_map (λ i. i.now) c.args.after) items))
    (ap (flat_map items_lacked) catalogue ∙ plan_is c.args.self.now h (subst P catalogue c.in_ok-items.ensures.rising) told)
