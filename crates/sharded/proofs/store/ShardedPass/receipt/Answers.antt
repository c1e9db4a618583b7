use Rattle.std.proofs.Common.{map, ap, sym, subst, ◌∙◌}
use Rattle.shared.specs.Passes.{seen_by}
use Rattle.sharded.specs.Passes.{stores_of, receipt_stores}
use Rattle.sharded.specs.Seats.{shows_of, IsPassOf, IsReceiptOf, pass_shows}
use Rattle.sharded.proofs.Passes.{seen_stores}
use Rattle.sharded.proofs.Joins.{seat_stores_of, seen_shows, seen_receipt}
use Rattle.sharded.proofs.store.ShardedPass.receipt.Goals as goal

pub receipts_of-requires-clause-stores : goal.receipts_of-requires-clause-stores
receipts_of-requires-clause-stores c = seat_stores_of c.self.inside.seats.items ∙ ap (λ v. stores_of v.shards) c.self.view_is ∙ ap (λ s. s.shards) c.requires ∙ ap (λ s. s.shards) (sym c.store.view_is) ∙ sym c.deref.ensures.value

pub receipt-receipt-requires : goal.receipt-receipt-requires
receipt-receipt-requires c = record { ledger = ap (λ v. v.ledger) c.self.view_is ∙ ap (λ s. s.ledger) c.requires ∙ ap (λ s. s.ledger) (sym c.store.view_is) }

pub invariant_of-self : goal.invariant_of-self
invariant_of-self c = subst (λ seats. IsPassOf seats c.self.inside.follower) (sym c.receipts_of.ensures.same) c.self.invariant

pub invariant_of-self-2 : goal.invariant_of-self-2
invariant_of-self-2 c =
    subst (λ f. IsPassOf c.receipts_of.new.seats.items f) (sym c.receipt-receipt.ensures.same) (subst (λ seats. IsPassOf seats c.self.inside.follower) (sym c.receipts_of.ensures.same) c.self.invariant)

pub invariant_of-result : goal.invariant_of-result
invariant_of-result c =
    subst (λ rs. IsReceiptOf rs c.receipt-receipt.result) (sym c.in_ok-receipts_of.ensures.given)
    (seen_receipt c.self.inside.seats.items c.self.inside.follower c.receipt-receipt.result c.self.invariant (ap (λ r. r.ledger) c.receipt-receipt.ensures.given) (ap (λ r. r.list) c.receipt-receipt.ensures.given))

pub returns-clause-same : goal.returns-clause-same
returns-clause-same c = (λ i. pass_shows (c.receipts_of.ensures.same i) (c.receipt-receipt.ensures.same i)) ∙ c.self.view_is

pub returns-clause-given : goal.returns-clause-given
returns-clause-given c = c.in_ok-receipts_of.ensures.given ∙ seen_shows c.self.inside.seats.items ∙ ap (λ v. map seen_by v.shards) c.self.view_is

pub returns-clause-given_same : goal.returns-clause-given_same
returns-clause-given_same c =
    (λ i. record { shards = (ap receipt_stores c.in_ok-receipts_of.ensures.given ∙ ap receipt_stores (seen_shows c.self.inside.seats.items) ∙ seen_stores (shows_of c.self.inside.seats.items)) i; ledger = (c.receipt-receipt.ensures.given i).ledger })
    ∙ ap (λ v. record { shards = stores_of v.shards; ledger = v.ledger }) c.self.view_is ∙ c.requires
