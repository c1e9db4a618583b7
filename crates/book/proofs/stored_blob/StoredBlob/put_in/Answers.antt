use Rattle.std.proofs.Common.{◌≡◌, ◌+◌, ◌≤◌, ◌∙◌, Some, ap, arith}
use Rattle.sealed.specs.declared.value.Sealed.{Sealed}
use Rattle.book.specs.Lacking.{lacked_count}
use Rattle.book.specs.Totals.{open_at, open_count}
use Rattle.book.proofs.Mending.{seen_changed, recount, with_one_less}
use Rattle.book.proofs.stored_blob.StoredBlob.put_in.Goals as goal

recounted : (c : goal.After-count_open) → (c.self.inside.unrecoverable + c.count_open.result ≡ open_count c.put_back_in.new.sealed.value + c.count_open-before.result) × (c.self.inside.unrecoverable + c.count_open.result ≤ 4097)
recounted c =
    recount c.args.self.now c.put_back_in.new.sealed.value c.args.stripe c.args.fragment c.self.inside.unrecoverable c.count_open-before.result c.count_open.result (Some c.args.bytes)
    (c.self.invariant.1 ∙ ap open_count c.self.view_is) (seen_changed c.self.view_is c.in_ok-put_back_in.ensures.ok) c.requires.has.0 c.requires.has.1
    (c.count_open-before.ensures ∙ ap (λ (v : Sealed). open_at v c.args.stripe) (c.deref.ensures ∙ c.self.view_is))
    (c.count_open.ensures ∙ ap (λ (v : Sealed). open_at v c.args.stripe) c.deref-2.ensures)

-- asked at a later place than `recounted`, so it counts again
pub invariant_of-self-2 : goal.invariant_of-self-2
invariant_of-self-2 c =
    let s = c.args.self.now in
    let t = c.put_back_in.new.sealed.value in
    let r = recount s t c.args.stripe c.args.fragment c.self.inside.unrecoverable c.count_open-before.result c.count_open.result (Some c.args.bytes)
    (c.self.invariant.1 ∙ ap open_count c.self.view_is) (seen_changed c.self.view_is c.in_ok-put_back_in.ensures.ok) c.requires.has.0 c.requires.has.1
    (c.count_open-before.ensures ∙ ap (λ (v : Sealed). open_at v c.args.stripe) (c.deref.ensures ∙ c.self.view_is))
    (c.count_open.ensures ∙ ap (λ (v : Sealed). open_at v c.args.stripe) c.deref-2.ensures) in (
      omega (arith, with_one_less c.args.self.now c.put_back_in.new.sealed.value c.args.stripe c.args.fragment c.self.inside.lost c.args.bytes (c.self.invariant.0 ∙ ap lacked_count c.self.view_is) (seen_changed c.self.view_is c.in_ok-put_back_in.ensures.ok) c.requires.has.0 c.requires.has.1 c.requires.lost),
      omega (arith, r.0),
    )

pub overflow_sub-self : goal.overflow_sub-self
overflow_sub-self c =
    omega (arith, with_one_less c.args.self.now c.put_back_in.new.sealed.value c.args.stripe c.args.fragment c.self.inside.lost c.args.bytes (c.self.invariant.0 ∙ ap lacked_count c.self.view_is) (seen_changed c.self.view_is c.in_ok-put_back_in.ensures.ok) c.requires.has.0 c.requires.has.1 c.requires.lost)

pub overflow_add-self : goal.overflow_add-self
overflow_add-self c = let r = recounted c in omega (arith, r.1)

pub overflow_sub-self-2 : goal.overflow_sub-self-2
overflow_sub-self-2 c = let r = recounted c in omega (arith, r.0)

pub returns-clause-ok : goal.returns-clause-ok
returns-clause-ok c = seen_changed c.self.view_is c.in_ok-put_back_in.ensures.ok

pub returns-clause-fewer : goal.returns-clause-fewer
returns-clause-fewer c =
    omega (arith, with_one_less c.args.self.now c.put_back_in.new.sealed.value c.args.stripe c.args.fragment c.self.inside.lost c.args.bytes (c.self.invariant.0 ∙ ap lacked_count c.self.view_is) (seen_changed c.self.view_is c.in_ok-put_back_in.ensures.ok) c.requires.has.0 c.requires.has.1 c.requires.lost, c.self.invariant.0 ∙ ap lacked_count c.self.view_is)
