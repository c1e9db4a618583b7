use Rattle.std.proofs.Common.{◌≡◌, ℕ, ◌∙◌, ◌++◌, [], ◌∷◌, List, Option, Some, ap, sym, take, length, arith}
use Rattle.std.specs.List.{filter, flat_map}
use Rattle.std.specs.Option.{option_map}
use Rattle.std.specs.BTreeMap.Range.{range_contains}
use Rattle.std.specs.declared.ops.Bound.{Bound}
use Rattle.std.specs.declared.ops.Bound.TheVariants.{Unbounded}
use Rattle.sealed.specs.declared.value.Sealed.{Sealed}
use Rattle.history.specs.Names.{name_cmp}
use Rattle.book.specs.Catalogue.{items_from}
use Rattle.book.specs.Plan.{items_after}
use Rattle.book.specs.Losing.{value_at}
use Rattle.book.specs.declared.plan.Item.{Item}
use Rattle.book.proofs.Parts.{part_listed, behind_at, take_more, few_taken}
use Rattle.book.proofs.catalogue.list_lacking.Goals as goal

pub loop-name-init : goal.loop-name-init
loop-name-init c =
    let after : Option Item = option_map (λ i. i.now) c.args.after in
    let rest : List Item = flat_map (behind_at after c.args.blobs.now.entries) c.into_iter-name-iterator.result in
    let none : c.new-items.result.items ≡ [] = c.new-items.ensures.items in
    let part : c.into_iter-name-iterator.result ≡ filter (range_contains name_cmp c.first_name.result Unbounded) c.args.lacking.now.keys = c.into_iter-name-iterator.ensures.into_iter_gives ∙ c.range-name-items.ensures.between tt in (
      omega (arith, ap length none),
      ap (λ (items : List Item). take c.args.most (items ++ rest)) none
          ∙ ap (take c.args.most) (part_listed after c.args.blobs.now.entries c.args.lacking.now.keys c.into_iter-name-iterator.result c.len.ensures.ordered c.range-name-items.ensures.ordered c.requires
          (part ∙ ap (λ (b : Bound (List ℕ)). filter (range_contains name_cmp b Unbounded) c.args.lacking.now.keys) c.first_name.ensures)),
    )

pub loop-name-preserved-in-Continue-1 : goal.loop-name-preserved-in-Continue-1
loop-name-preserved-in-Continue-1 c =
    let after : Option Item = option_map (λ i. i.now) c.args.after in
    let es = c.args.blobs.now.entries in
    let G : List ℕ → List Item = behind_at after es in
    let stored : value_at es c.in-Some.name.now ≡ Some c.in-Some-get.stored.now = sym c.in-Some-get.ensures.value in
    let next : c.loop-name.name-iterator ≡ c.in-Some.name.now ∷ c.next.new.self = c.in-Some.ensures.steps in
    let new : c.list_lost.new.items.items ≡ take c.args.most (c.loop-name.items.items ++ G c.in-Some.name.now) =
    c.in_ok-list_lost.ensures ∙ ap (λ (x : Option Sealed). take c.args.most (c.loop-name.items.items ++ items_after after (items_from (c.in-Some.name.now, x)))) (sym stored) in (
      few_taken c.args.most _ _ new,
      take_more c.args.most c.loop-name.items.items (G c.in-Some.name.now) (flat_map G c.next.new.self) c.list_lost.new.items.items new
          ∙ ap (λ names. take c.args.most (c.loop-name.items.items ++ flat_map G names)) (sym next)
          ∙ c.loop-name.invariant.1,
    )
