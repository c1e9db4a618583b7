-- Only a put gives a name other bytes.
use Rattle.std.proofs.Common.{◌≡◌, ℕ, ◌+◌, Bool, true, false, List, [], ◌∷◌, ◌++◌, Option, None, Some, cond, refl, sym, ap, ◌∙◌, subst}
use Rattle.std.specs.Prelude.{IfSome}
use Rattle.std.specs.FinMap as finite
use Rattle.std.specs.Cmp.Lexicographic.{nat_list_cmp_total}
use Rattle.std.specs.Ordering.{eq_by_cmp}
use Rattle.std.proofs.lemmas.Map.Lookups.{exact_bytes}
use Rattle.std.proofs.lemmas.Map.Views.{tells_apart}
use Rattle.sealed.specs.Blob.{Lost, nothing}
use Rattle.lrc_code.specs.declared.Code.{Code}
use Rattle.history.specs.Names.{name_cmp}
use Rattle.history.specs.State.{State, Blob, empty_state}
use Rattle.history.specs.Step.{Operation, put, read, lose, repair, restore, delete, stat, after, with_lost}
use Rattle.history.specs.History.{call_of, is_put_call}
use Rattle.history.specs.declared.note.Note.{Note}
use Rattle.history.specs.declared.note.Note.TheVariants as note
use Rattle.book.specs.Truth.{Puts, bytes_in, AreTrue}

abbrev Has : Puts → List ℕ → Option Blob → Type 0
Has t q found = IfSome found (λ blob. blob.bytes ≡ bytes_in t q)

module _ (t : Puts) (s : State) (all : AreTrue t s) where
  given : (n q : List ℕ) (x : Blob) (b : Bool) → eq_by_cmp name_cmp q n ≡ b → x.bytes ≡ bytes_in t n → Has t q (cond b (Some x) (finite.get s.names q))
  given n q x true e is = subst (λ m. x.bytes ≡ bytes_in t m) (sym (tells_apart exact_bytes q n e)) is
  given n q x false e is = all q

  lost_true : (n : List ℕ) (found : Option Blob) (change : Lost → Lost) → finite.get s.names n ≡ found → AreTrue t (with_lost s n found change)
  lost_true n None change here = all
  lost_true n (Some blob) change here =
      λ q.
      let later : Blob = record blob { lost = change blob.lost } in
      let own : Has t n (Some blob) = subst (Has t n) here (all n) in
      subst (Has t q) (sym (finite.get-insert nat_list_cmp_total s.names n later q)) (given n q later (eq_by_cmp name_cmp q n) refl own)

  gone : (n q : List ℕ) (b : Bool) → Has t q (cond b None (finite.get s.names q))
  gone n q true = tt
  gone n q false = all q

  pub stays_true : (o : Operation) (m : Note) → is_put_call (call_of o) ≡ false → AreTrue t (after s o m)
  stays_true (put n code b) m e = absurd (cc)
  stays_true (read n start len) m e = all
  stays_true (lose n j f) (note.Lost v) e = lost_true n (finite.get s.names n) _ refl
  stays_true (lose n j f) m e = all
  stays_true (repair n j f) (note.Repaired v) e = lost_true n (finite.get s.names n) _ refl
  stays_true (repair n j f) m e = all
  stays_true (restore n x j f) (note.Repaired v) e = lost_true n (finite.get s.names n) _ refl
  stays_true (restore n x j f) m e = all
  stays_true (delete n) (note.Deleted v) e = λ q. subst (Has t q) (sym (finite.get-remove nat_list_cmp_total s.names n q)) (gone n q (eq_by_cmp name_cmp q n))
  stays_true (delete n) m e = all
  stays_true (stat n) m e = all

  anew : (n b : List ℕ) (code : Code) (v : ℕ) (q : List ℕ) (here : Bool) → Has t q (finite.get s.names q)
      → IfSome (cond here (Some (record { version = v; bytes = b; code = code; lost = nothing })) (finite.get s.names q)) (λ (blob : Blob). blob.bytes ≡ cond here b (bytes_in t q))
  anew n b code v q true own = refl
  anew n b code v q false own = own

  pub put_true : (n b : List ℕ) (code : Code) (m : Note) → AreTrue ((n, b) ∷ t) (after s (put n code b) m)
  put_true n b code m q =
      let blob : Blob = record { version = s.puts + 1; bytes = b; code = code; lost = nothing } in
      subst (Has ((n, b) ∷ t) q) (sym (finite.get-insert nat_list_cmp_total s.names n blob q)) (anew n b code (s.puts + 1) q (eq_by_cmp name_cmp q n) (all q))

pub empty_true : (t : Puts) → AreTrue t empty_state
empty_true t q = subst (Has t q) (sym (finite.get-empty name_cmp q)) tt
