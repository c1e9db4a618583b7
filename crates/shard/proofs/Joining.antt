-- Seats that are opened, joined, and take in receipts.
use Rattle.std.proofs.Common.{◌≡◌, ◌⊎◌, inl, inr, ℕ, false, [], ◌∷◌, ◌++◌, Some, IfSome, ap, sym, subst, ◌∙◌, ⊎_elim}
use mathlib.Core.List.{IsPrefix}
use Rattle.gate.specs.Places.{TableId, SeatState, ReceiptState, last_of, IsChain}
use Rattle.book.specs.Serial.{Act}
use Rattle.book.specs.Holds.{HoldsHistory}
use Rattle.shared.specs.Passes.{acts_of}
use Rattle.shared.proofs.Passes.{joined, accepted, opened}
use Rattle.ledger.specs.declared.held.Held.{Held}
use Rattle.ledger.specs.Values.{MayFollowHeld, KeepsAll}
use Rattle.ledger_map.specs.declared.acts.ShardBook.{ShardBook}
use Rattle.ledger_map.specs.Books.{book_of, between_books}
use Rattle.shard.specs.Seats.{books_in, plain, plain_receipt, book_follows, ledger_beside, shard_beside, IsKeptChain, IsSeat, IsSeatReceipt}
use Rattle.shard.proofs.Visits.{Books, plain_prefix, kept_at, kept_longer}

-- a longer list, of the same ledger and shard
kept_more : (xs ys : Books) → IsKeptChain xs → IsKeptChain ys → IsPrefix xs ys → IsKeptChain ys
kept_more xs ys k l p = record { chain = l.chain; ledger = k.ledger; shard = k.shard; keeps = kept_longer xs ys k l.keeps.0 p l.chain l.keeps.1 }

pub kept_same : (xs ys : Books) → IsKeptChain xs → IsKeptChain ys → IsPrefix xs ys → (ledger_beside (last_of ys) ≡ ledger_beside (last_of xs)) × (shard_beside (last_of ys) ≡ shard_beside (last_of xs))
unfolding kept_more
kept_same xs ys k l p =
    let before = kept_at xs k in
    let now = kept_at ys (kept_more xs ys k l p) in
    (now.0 ∙ sym before.0, now.1 ∙ sym before.1)

pub one_of : (a b q : SeatState (Held ShardBook Act)) → IsSeat a → IsSeat b → (q.list ≡ a.list) ⊎ (q.list ≡ b.list) → IsKeptChain q.list
one_of a b q mine theirs one = ⊎_elim (λ (e : q.list ≡ a.list). subst IsKeptChain (sym e) mine.kept) (λ (e : q.list ≡ b.list). subst IsKeptChain (sym e) theirs.kept) one

pub one_books : (a b q : Books) → (q ≡ a) ⊎ (q ≡ b) → (books_in q ≡ books_in a) ⊎ (books_in q ≡ books_in b)
one_books a b q one = ⊎_elim (λ (e : q ≡ a). inl (ap books_in e)) (λ (e : q ≡ b). inr (ap books_in e)) one

pub one_acts : (a b q : SeatState (Held ShardBook Act)) → (q.list ≡ a.list) ⊎ (q.list ≡ b.list) → (acts_of (books_in q.list) ≡ acts_of (books_in a.list)) ⊎ (acts_of (books_in q.list) ≡ acts_of (books_in b.list))
one_acts a b q one = ⊎_elim (λ (e : q.list ≡ a.list). inl (ap (λ (l : Books). acts_of (books_in l)) e)) (λ (e : q.list ≡ b.list). inr (ap (λ (l : Books). acts_of (books_in l)) e)) one

pub joined_seat : (a b q : SeatState (Held ShardBook Act)) → IsSeat a → IsSeat b → IsPrefix a.list q.list → IsPrefix b.list q.list → q.own ≡ a.own ++ b.own → (q.list ≡ a.list) ⊎ (q.list ≡ b.list) → q.inside ≡ false → IsSeat q
joined_seat a b q mine theirs first second own one outside = record {
  pass = joined (plain a) (plain b) (plain q) mine.pass theirs.pass (plain_prefix a.list q.list first) (plain_prefix b.list q.list second) own (one_books a.list b.list q.list one) outside;
  kept = one_of a b q mine theirs one;
}

pub one_received : (a : SeatState (Held ShardBook Act)) (r : ReceiptState (Held ShardBook Act)) (q : SeatState (Held ShardBook Act)) → IsSeat a → IsSeatReceipt r → (q.list ≡ a.list) ⊎ (q.list ≡ r.list) → IsKeptChain q.list
one_received a r q mine told one = ⊎_elim (λ (e : q.list ≡ a.list). subst IsKeptChain (sym e) mine.kept) (λ (e : q.list ≡ r.list). subst IsKeptChain (sym e) told.kept) one

pub accepted_seat : (a q : SeatState (Held ShardBook Act)) (r : ReceiptState (Held ShardBook Act)) → IsSeat a → IsSeatReceipt r → q ≡ record a { list = q.list } → IsPrefix a.list q.list → (q.list ≡ a.list) ⊎ (q.list ≡ r.list) → IsSeat q
accepted_seat a q r mine told same first one = record {
  pass = accepted (plain a) (plain q) (plain_receipt r) mine.pass told.holds (ap plain same) (plain_prefix a.list q.list first) (one_books a.list r.list q.list one);
  kept = one_received a r q mine told one;
}

pub opened_seat : (p : SeatState (Held ShardBook Act)) (x : Held ShardBook Act) (id : TableId) (k : ℕ) → p.list ≡ x ∷ [] → p.own ≡ [] → p.inside ≡ false → KeepsAll between_books id k p.list → HoldsHistory (book_of x.value) [] → IsSeat p
opened_seat p x id k list own outside keeps tells = record {
  pass = opened (plain p) x.value.0 (ap books_in list) own outside tells;
  kept = record { chain = subst (IsChain (MayFollowHeld between_books book_follows)) (sym list) tt; ledger = id; shard = k; keeps = keeps };
}

-- the value that is taken is the last that was left
pub last_is : (list : Books) (x : Held ShardBook Act) (y : ShardBook) → last_of list ≡ Some x → IfSome (last_of list) (λ h. h.value ≡ y) → last_of (books_in list) ≡ Some y.0
last_is [] x y e has = absurd (cc)
last_is (z ∷ []) x y e has = ap (λ (b : ShardBook). Some b.0) has
last_is (z ∷ u ∷ us) x y e has = last_is (u ∷ us) x y e has
