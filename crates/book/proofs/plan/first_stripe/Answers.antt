use Rattle.std.proofs.Common.{◌∙◌, ap, sym, Option, Bor}
use Rattle.std.specs.Option.{option_map}
use Rattle.book.specs.Plan.{is_behind}
use Rattle.book.specs.declared.plan.Item.{Item}
use Rattle.book.proofs.Parts.{none_earlier}
use Rattle.book.proofs.plan.first_stripe.Goals as goal

pub returns-in-Some : goal.returns-in-Some
returns-in-Some c j f less =
    ap (λ (after : Option (Bor Item)). is_behind (option_map (λ i. i.now) after) c.args.name.now j f) c.in-Some.is ∙ none_earlier c.in-Some.item.now c.args.name.now j f (sym c.if-eq.ensures) less
