use Rattle.std.proofs.Common.{◌≡◌, ◌+◌, ◌≤◌, ◌∙◌, None, ap, sym, arith}
use Rattle.sealed.specs.declared.value.Sealed.{Sealed}
use Rattle.book.specs.Lacking.{lacked_count}
use Rattle.book.specs.Totals.{open_at, open_count}
use Rattle.book.proofs.Mending.{seen_changed, few_lacked, fragment_there, recount, with_one_more, is_without}
use Rattle.book.proofs.stored_blob.StoredBlob.lose.Goals as goal

recounted : (c : goal.After-count_open) → (c.self.inside.unrecoverable + c.count_open.result ≡ open_count c.take_out_of.new.sealed.value + c.count_open-before.result) × (c.self.inside.unrecoverable + c.count_open.result ≤ 4097)
recounted c =
    let has = fragment_there c.args.self.now c.args.stripe c.args.fragment (sym c.is_no_fragment.ensures ∙ c.if-is_no_fragment.false) in
    recount c.args.self.now c.take_out_of.new.sealed.value c.args.stripe c.args.fragment c.self.inside.unrecoverable c.count_open-before.result c.count_open.result None
    (c.self.invariant.1 ∙ ap open_count c.self.view_is) (seen_changed c.self.view_is c.in_ok-take_out_of.ensures.ok) has.0 has.1
    (c.count_open-before.ensures ∙ ap (λ (v : Sealed). open_at v c.args.stripe) (c.deref-2.ensures ∙ c.self.view_is))
    (c.count_open.ensures ∙ ap (λ (v : Sealed). open_at v c.args.stripe) c.deref-3.ensures)

-- asked at a later place than `recounted`, so it counts again
pub invariant_of-self-2 : goal.invariant_of-self-2
invariant_of-self-2 c =
    let s = c.args.self.now in
    let t = c.take_out_of.new.sealed.value in
    let has = fragment_there c.args.self.now c.args.stripe c.args.fragment (sym c.is_no_fragment.ensures ∙ c.if-is_no_fragment.false) in
    let r = recount s t c.args.stripe c.args.fragment c.self.inside.unrecoverable c.count_open-before.result c.count_open.result None
    (c.self.invariant.1 ∙ ap open_count c.self.view_is) (seen_changed c.self.view_is c.in_ok-take_out_of.ensures.ok) has.0 has.1
    (c.count_open-before.ensures ∙ ap (λ (v : Sealed). open_at v c.args.stripe) (c.deref-2.ensures ∙ c.self.view_is))
    (c.count_open.ensures ∙ ap (λ (v : Sealed). open_at v c.args.stripe) c.deref-3.ensures) in (
      with_one_more s t c.args.stripe c.args.fragment c.self.inside.lost (c.self.invariant.0 ∙ ap lacked_count c.self.view_is) (seen_changed c.self.view_is c.in_ok-take_out_of.ensures.ok) has.0 has.1 (sym c.is_lost.ensures.absent ∙ c.if-is_lost.false),
      omega (arith, r.0),
    )

pub overflow_add-self : goal.overflow_add-self
overflow_add-self c = omega (arith, c.self.invariant.0, few_lacked c.self.inside.sealed.value)

pub overflow_add-self-2 : goal.overflow_add-self-2
overflow_add-self-2 c = let r = recounted c in omega (arith, r.1)

pub overflow_sub-self : goal.overflow_sub-self
overflow_sub-self c = let r = recounted c in omega (arith, r.0)

pub returns-clause-changed : goal.returns-clause-changed
returns-clause-changed c = is_without c.args.self.now c.take_out_of.new.sealed.value c.args.stripe c.args.fragment (seen_changed c.self.view_is c.in_ok-take_out_of.ensures.ok)
