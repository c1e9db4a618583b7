-- What lies between two books.
use Rattle.std.proofs.Common.{◌≡◌, ◌≢◌, ℕ, zero, suc, ◌+◌, ◌-◌, ◌<◌, ◌≤◌, List, [], ◌∷◌, ◌++◌, length, map, drop, cond, Option, None, Some, refl, ap, sym, subst, ◌∙◌, arith, length-append}
use mathlib.Core.Logic.{dite}
use native.Mathlib.Decide.{dec_le}
use Rattle.std.proofs.Math.Seq.{drop-append_seam}
use Rattle.std.proofs.lemmas.List.{map-append, drop-append-le, length-map, length-drop}
use Rattle.std.specs.FinMap as finite
use Rattle.std.specs.Cmp.Lexicographic.{nat_list_cmp_total}
use Rattle.std.proofs.lemmas.Cmp.{eq_by_cmp_equiv}
use Rattle.lrc_code.specs.declared.Code.{Code}
use Rattle.sealed.specs.declared.value.Sealed.{Sealed}
use Rattle.sealed.specs.Blob.{nothing}
use Rattle.history.specs.declared.note.Entry.{Entry}
use Rattle.history.specs.declared.note.Note.{Note}
use Rattle.history.specs.State.{Blob, State, empty_state}
use Rattle.history.specs.Step.{Operation, put, read, lose, repair, restore, delete, stat, after}
use Rattle.history.specs.History.{Event, History, state_of, call_of, entry_of}
use Rattle.history.proofs.Beginnings.{after_all-append}
use Rattle.book.specs.Contents.{Contents, sealed_at}
use Rattle.book.specs.Holds.{HoldsHistory, Correspond}
use Rattle.book.specs.Serial.{Act, call, trim, events_in, given_in}
use Rattle.requests.specs.Between.{bytes_found, operation_in, first_in, between, acts_for, acts_between, RecordsActs, MayFollow}
use Rattle.book.proofs.BlobBytes.{bytes_are}

kept_bytes : (w : ℕ) (found : Option Sealed) (v : ℕ) (code : Code) (b : List ℕ) → Correspond w found (Some (record { version = v; bytes = b; code = code; lost = nothing })) → bytes_found found ≡ b
kept_bytes w None v code b keeps = absurd keeps
kept_bytes w (Some s) v code b keeps = bytes_are s b keeps.stands

-- a name has what was put last
get_put : (s : State) (n : List ℕ) (code : Code) (b : List ℕ) (m : Note) → finite.get (after s (put n code b) m).names n ≡ Some (record { version = s.puts + 1; bytes = b; code = code; lost = nothing })
get_put s n code b m =
    let blob : Blob = record { version = s.puts + 1; bytes = b; code = code; lost = nothing } in
    finite.get-insert nat_list_cmp_total s.names n blob n ∙ ap (λ t. cond t (Some blob) (finite.get s.names n)) ((eq_by_cmp_equiv nat_list_cmp_total).refl n)

-- a call is read off the book after it
operation_back : (book : Contents) (h : History) (e : Event) → HoldsHistory book (h ++ e ∷ []) → operation_in book (call_of e.operation) ≡ e.operation
operation_back book h e told = by_operation e.operation refl
  where
    by_operation : (o : Operation) → e.operation ≡ o → operation_in book (call_of o) ≡ o
    by_operation (put n code b) is =
        let same : finite.get (state_of (h ++ e ∷ [])).names n ≡ Some (record { version = (state_of h).puts + 1; bytes = b; code = code; lost = nothing }) =
        ap (λ (s : State). finite.get s.names n) (after_all-append empty_state h (e ∷ []))
        ∙ ap (λ (o : Operation). finite.get (after (state_of h) o e.note).names n) is
        ∙ get_put (state_of h) n code b e.note in
        ap (put n code) (kept_bytes book.width (sealed_at book n) ((state_of h).puts + 1) code b (subst (Correspond book.width (sealed_at book n)) same (told.catalogue n)))
    by_operation (read n start len) is = refl
    by_operation (lose n j f) is = refl
    by_operation (repair n j f) is = refl
    by_operation (restore n v j f) is = refl
    by_operation (delete n) is = refl
    by_operation (stat n) is = refl

events_back : (book : Contents) (h g : History) → HoldsHistory book (h ++ g) → length g ≤ 1 → first_in book (map entry_of g) ≡ g
events_back book h [] told few = refl
events_back book h (e ∷ []) told few = ap (λ o. record { who = e.who; operation = o; note = e.note } ∷ []) (operation_back book h e told)
events_back book h (d ∷ e ∷ g) told few = absurd (omega arith)

-- the history of a book has as many calls as were discarded and are in its journal
pub told_length : (book : Contents) (h : History) → HoldsHistory book h → book.base.trimmed + length book.entries ≡ length h
told_length book h told =
    let t = book.base.trimmed in
    let long : t ≤ length h = told.long in
    let entries : length book.entries ≡ length h - t = ap length told.entries ∙ length-map (drop t h) entry_of ∙ length-drop t h in
    omega (arith, long, entries)

-- The second book continues the first by these events, at most one, or discards n more calls. It has
-- discarded no call that the first does not have
pub record GoesOn (a b : Contents) (g : History) (n : ℕ) : Type 0 where
  pub width : b.width ≡ a.width
  pub limit : b.limit ≡ a.limit
  pub few : length g ≤ 1
  pub holds : (h : History) → HoldsHistory a h → HoldsHistory b (h ++ g)
  pub held : (h : History) → HoldsHistory a h → b.base.trimmed ≤ length h
  pub given : b.base.trimmed ≡ a.base.trimmed + n
  pub one : 0 < length g → n ≡ 0
  pub room : 0 < length g → length a.entries ≢ a.limit

-- what lies between them is these events
pub between_is : (a b : Contents) (g h : History) (n : ℕ) → GoesOn a b g n → HoldsHistory a h → between a b ≡ g
between_is a b g h n on told =
    let t = b.base.trimmed in
    let later : HoldsHistory b (h ++ g) = on.holds h told in
    let entries : b.entries ≡ map entry_of (drop t h) ++ map entry_of g =
    later.entries ∙ ap (map entry_of) (drop-append-le t h g (on.held h told)) ∙ map-append entry_of (drop t h) g in
    let whole : length (map entry_of (drop t h)) ≡ length h - t = length-map (drop t h) entry_of ∙ length-drop t h in
    let place : a.base.trimmed + length a.entries - t ≡ length (map entry_of (drop t h)) = ap (λ n. n - t) (told_length a h told) ∙ sym whole in
    ap (first_in b) ((λ i. drop (place i) (entries i)) ∙ drop-append_seam (map entry_of (drop t h)) (map entry_of g))
    ∙ events_back b h g later on.few

pub below_unless : (m n : ℕ) → m ≤ n → m ≢ n → m < n
below_unless m n le apart = dite (dec_le n m) (λ past. absurd (apart (omega arith))) (λ inside. omega arith)

-- ---- acts
pub events-append : (xs ys : List Act) → events_in (xs ++ ys) ≡ events_in xs ++ events_in ys
events-append [] ys = refl
events-append (call e ∷ xs) ys = ap (λ l. e ∷ l) (events-append xs ys)
events-append (trim n ∷ xs) ys = events-append xs ys

pub given-append : (xs ys : List Act) → given_in (xs ++ ys) ≡ given_in xs + given_in ys
given-append [] ys = omega arith
given-append (call e ∷ xs) ys = given-append xs ys
given-append (trim n ∷ xs) ys = let more = given-append xs ys in omega arith

pub events_for : (g : History) (n : ℕ) → length g ≤ 1 → events_in (acts_for g n) ≡ g
events_for [] zero few = refl
events_for [] (suc n) few = refl
events_for (e ∷ []) n few = refl
events_for (d ∷ e ∷ g) n few = absurd (omega arith)

given_for : (g : History) (n : ℕ) → (0 < length g → n ≡ 0) → given_in (acts_for g n) ≡ n
given_for [] zero one = refl
given_for [] (suc n) one = omega arith
given_for (e ∷ g) n one = sym (one (omega arith))

-- what was done between them
pub acts_are : (a b : Contents) (g h : History) (n : ℕ) → GoesOn a b g n → HoldsHistory a h → acts_between a b ≡ acts_for g n
acts_are a b g h n on told =
    let more : b.base.trimmed - a.base.trimmed ≡ n = let is = on.given in omega arith in
    λ i. acts_for (between_is a b g h n on told i) (more i)

-- after these acts the books tell one more
pub tells_more : (a b : Contents) (g : History) (n : ℕ) → GoesOn a b g n → (acts : List Act) → RecordsActs a acts → RecordsActs b (acts ++ acts_for g n)
tells_more a b g n on acts t =
    let h : History = events_in acts in
    let later : HoldsHistory b (h ++ g) = on.holds h t.holds in
    let old : a.base.trimmed + length a.entries ≡ length h = told_length a h t.holds in
    let new : b.base.trimmed + length b.entries ≡ length (h ++ g) = told_length b (h ++ g) later in
    let long = length-append h g in
    let fits : length a.entries ≤ a.limit = t.room in
    let given : b.base.trimmed ≡ a.base.trimmed + n = on.given in
    let same : b.limit ≡ a.limit = on.limit in
    record {
      holds = subst (HoldsHistory b) (sym (events-append acts (acts_for g n) ∙ ap (λ l. h ++ l) (events_for g n on.few))) later;
      given = given ∙ (λ i. t.given i + sym (given_for g n on.one) i) ∙ sym (given-append acts (acts_for g n));
      room = dite (dec_le 1 (length g))
          (λ some. let free : length a.entries < a.limit = below_unless (length a.entries) a.limit fits (on.room some) in let few = on.few in let none = on.one some in omega arith)
          (λ none. omega arith);
    }

pub goes_follows : (a b : Contents) (g : History) (n : ℕ) → GoesOn a b g n → MayFollow a b
goes_follows a b g n on = record {
  width = on.width;
  limit = on.limit;
  holds = λ acts told. subst (λ (es : List Act). RecordsActs b (acts ++ es)) (sym (acts_are a b g (events_in acts) n on told.holds)) (tells_more a b g n on acts told);
}

-- at most one call lies between two books
pub one_call : (a b : Contents) → length (between a b) ≤ 1
one_call a b = at_most_one (drop (a.base.trimmed + length a.entries - b.base.trimmed) b.entries)
  where
    at_most_one : (es : List Entry) → length (first_in b es) ≤ 1
    at_most_one [] = omega arith
    at_most_one (e ∷ es) = omega arith

-- and at most one act
pub one_act : (a b : Contents) → length (acts_between a b) ≤ 1
one_act a b = at_most (between a b) (b.base.trimmed - a.base.trimmed)
  where
    at_most : (g : History) (n : ℕ) → length (acts_for g n) ≤ 1
    at_most [] zero = omega arith
    at_most [] (suc n) = omega arith
    at_most (e ∷ g) n = omega arith
