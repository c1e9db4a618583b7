use Rattle.std.proofs.Common.{◌≡◌, ◌-◌, ◌*◌, ◌<◌, ◌≤◌, [], ◌∷◌, ◌++◌, Option, Vec, Global, take, length, ◌∙◌, sym, ap, arith}
use Rattle.std.specs.Option.{option_map}
use Rattle.lrc_code.specs.Code.{fragment_count}
use Rattle.sealed.specs.declared.value.Sealed.{Sealed}
use Rattle.book.specs.declared.plan.Item.{Item}
use Rattle.book.specs.Plan.{items_for, items_after}
use Rattle.book.proofs.Planning.{all_fragments}
use Rattle.book.proofs.Parts.{starts_at, full_below, pushes, skips}
use Rattle.book.proofs.stored_blob.StoredBlob.list_lost.Goals as goal
use Rattle.book.proofs.stored_blob.StoredBlob.list_lost.Goals.{then-len-most-2+then-is_lost_behind+in_ok-push, else-len-most-2, else-len-most-2-via-then-len-most-2+else-is_lost_behind, else-len-most-2-via-else-len-most-2}

pub loop-stripe-init : goal.loop-stripe-init
loop-stripe-init c =
    let first = c.min-stripe.ensures in
    starts_at (option_map (λ i. i.now) c.args.after) c.args.name.now c.args.self.now c.first_stripe.result c.first_stripe.ensures
    c.args.most (16 * c.min-stripe.result) c.args.items.now.items (omega arith) c.requires

pub returns-then-len-most : goal.returns-then-len-most
returns-then-len-most c =
    let count : length c.deref-2.result.now.stripes ≡ length c.args.self.now.stripes = ap (λ (s : Sealed). length s.stripes) (c.deref-2.ensures ∙ c.self.view_is) in
    full_below (option_map (λ i. i.now) c.args.after) c.args.name.now c.args.self.now c.args.most (16 * c.loop-stripe.stripe) (16 * length c.args.self.now.stripes)
    c.args.items.now.items c.loop-stripe.items.items (omega (arith, count)) c.loop-stripe.invariant (omega arith)

pub loop-f-preserved : goal.loop-f-preserved
loop-f-preserved c =
    let after : Option Item = option_map (λ i. i.now) c.args.after in
    let count : c.fragments-f-end.result ≤ 16 = c.fragments-f-end.ensures.few in
    let few : c.loop-f.f < 16 = omega arith in
    let version : c.deref.result.now.version ≡ c.args.self.now.version = ap (λ (s : Sealed). s.version) (c.deref.ensures ∙ c.self.view_is) in
    elim c.if-len-most-2.branch [
      | then-len-most-2+then-is_lost_behind+in_ok-push w ↦
          pushes after c.args.name.now c.args.self.now c.loop-stripe.stripe c.loop-f.f few c.args.most c.args.items.now.items c.loop-f.items.items c.if-len-most-2.items.items
          c.loop-f.invariant (omega arith) (sym w.is_lost_behind.ensures ∙ w.if-is_lost_behind.true)
          (ap (λ (v : Vec Item Global). v.items) w.items-is ∙ w.in_ok-push.ensures.items
          ∙ (λ i. c.loop-f.items.items ++ record { name = w.duplicate-name.ensures i; version = version i; stripe = c.loop-stripe.stripe; f = c.loop-f.f } ∷ []))
      | else-len-most-2 w ↦
          ap (λ (v : Vec Item Global). v.items) w.items-is
          ∙ elim w.else-len-most-2.branch [
            | else-len-most-2-via-then-len-most-2+else-is_lost_behind w' ↦
                skips after c.args.name.now c.args.self.now c.loop-stripe.stripe c.loop-f.f few c.args.most c.args.items.now.items c.loop-f.items.items
                c.loop-f.invariant (sym w'.is_lost_behind.ensures ∙ w'.if-is_lost_behind.false)
            | else-len-most-2-via-else-len-most-2 w' ↦
                full_below after c.args.name.now c.args.self.now c.args.most _ _ c.args.items.now.items c.loop-f.items.items (omega arith) c.loop-f.invariant (omega arith)
          ]
    ]

pub loop-stripe-preserved : goal.loop-stripe-preserved
loop-stripe-preserved c =
    let code : fragment_count c.deref-in-loop-stripe.result.now.code ≡ fragment_count c.args.self.now.code = ap (λ (s : Sealed). fragment_count s.code) (c.deref-in-loop-stripe.ensures ∙ c.self.view_is) in
    let count = c.fragments-f-end.ensures.few in
    c.loop-f.invariant
    ∙ ap (λ pairs. take c.args.most (c.args.items.now.items ++ items_after (option_map (λ i. i.now) c.args.after) (items_for c.args.name.now c.args.self.now.version pairs)))
    (all_fragments c.args.self.now c.loop-stripe.stripe (16 - c.loop-f.f) c.loop-f.f (omega arith) (omega (arith, code, c.fragments-f-end.ensures.value)))
