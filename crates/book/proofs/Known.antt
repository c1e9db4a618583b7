-- A fragment that was rebuilt outside the book is the fragment of each blob that the value of its
-- version represents.
use Rattle.std.proofs.Common.{◌≡◌, ℕ, ◌<◌, Bool, true, false, List, [], ◌∷◌, ◌++◌, Option, None, Some, is_none, cond, length, refl, sym, ap, ◌∙◌, subst, inl, inr}
use Rattle.std.specs.Prelude.{IfSome, nat_le, slice_index}
use Rattle.std.specs.FinMap as finite
use Rattle.std.proofs.lemmas.Bool.{cases_Bool, cases_eq, or_parts, false≢true, true≢false}
use Rattle.std.proofs.lemmas.Grind.{same_number_lists}
use Rattle.std.proofs.lemmas.List.FromFn.{length-map-range_with_len}
use Rattle.lrc_code.specs.declared.Code.{Code}
use Rattle.lrc_code.specs.Code.{fragment_count, Open}
use Rattle.lrc_code.specs.Column.{column}
use Rattle.lrc_code.proofs.Recoverable.{exact}
use Rattle.lrc_code.proofs.Stripes.{open_same}
use Rattle.sealed.specs.declared.value.Sealed.{Sealed}
use Rattle.sealed.specs.Layout.{stripe_count}
use Rattle.sealed.specs.Stripes.{fragment_at}
use Rattle.sealed.specs.Blob.{Lost, fragment, data_at, lost_in}
use Rattle.sealed.specs.Sealed.{StandsFor, absent_in}
use Rattle.sealed.specs.Rebuilding.{IsFragmentOf, IsRebuildable}
use Rattle.sealed.proofs.Fragments.{fragments_are}
use Rattle.history.specs.State.{Blob}
use Rattle.history.specs.Step.{put}
use Rattle.history.specs.History.{Event, History, IsLegal, HasPut, state_of}
use Rattle.history.specs.declared.note.Note.TheVariants as note
use Rattle.history.specs.Views.{no_such, open_test, repair_reply}
use Rattle.history.proofs.Keeping.{by_fragment}
use Rattle.history.proofs.Replies.{below_of}
use Rattle.book.specs.Contents.{Contents, sealed_at}
use Rattle.book.specs.Known.{IsFragmentIn, IsRepairFor, IsGiven}
use Rattle.book.specs.Truth.{bytes_in}
use Rattle.book.specs.Lacking.{lacks, view_in}
use Rattle.book.specs.Holds.{HoldsHistory, Represents, Correspond}
use Rattle.book.proofs.Mending.{lacks_here}
use Rattle.book.proofs.Versions.{was_put, put_later, only_put}

-- ---- what can be rebuilt
-- the value has the fragment, lacks it, and the test for unrecoverable ones is false
rebuildable_so : (s : Sealed) (j f : ℕ) → IsRebuildable s j f → (no_such s.width (view_in s) j f ≡ false) × (lacks s j f ≡ true) × (open_test s.code (lacks s j) f ≡ false)
rebuildable_so s j f can = (there, lacks_here s j f can.has.0 can.has.1 ∙ can.lost, closed)
  where
    there : no_such s.width (view_in s) j f ≡ false
    there = sym (by_fragment s.code s.width s.len j f true ((λ _. can.has), (λ _. refl)))

    closed : open_test s.code (lacks s j) f ≡ false
    closed =
        elim (cases_Bool (open_test s.code (lacks s j) f)) [
          | inl opened ↦
              absurd (can.closed (open_same s.code (lacks s j) (absent_in s j) f (λ g l. lacks_here s j g can.has.0 l) ((exact s.code (lacks s j) f can.has.1).0 opened)))
          | inr shut ↦ shut
        ]

-- if it lacks the fragment and can't rebuild it, the test is true
open_so : (s : Sealed) (j f : ℕ) → no_such s.width (view_in s) j f ≡ false → lacks s j f ≡ true → (IsRebuildable s j f → ⊥) → open_test s.code (lacks s j) f ≡ true
open_so s j f there gone not_so =
    let parts = or_parts (nat_le (stripe_count s.code s.width s.len) j) _ there in
    let below : j < stripe_count s.code s.width s.len = below_of _ j parts.0 in
    let inside : f < fragment_count s.code = below_of _ f parts.1 in
    elim (cases_Bool (open_test s.code (lacks s j) f)) [
      | inl opened ↦ opened
      | inr shut ↦
          absurd (not_so (record {
            has = (below, inside);
            lost = sym (lacks_here s j f below inside) ∙ gone;
            closed = λ o. false≢true (sym shut ∙ (exact s.code (lacks s j) f inside).1 (open_same s.code (absent_in s j) (lacks s j) f (λ g l. sym (lacks_here s j g below l)) o));
          }))
    ]

-- the replies to a repair
pub replies_repaired : (s : Sealed) (j f v : ℕ) → IsRebuildable s j f → v ≡ s.version → note.Repaired v ≡ repair_reply s.width (Some (view_in s)) j f
replies_repaired s j f v can same =
    let so = rebuildable_so s j f can in
    ap note.Repaired same ∙ (λ i. cond (sym so.0 i) note.NoFragment (cond (sym so.1 i) (cond (sym so.2 i) (note.Unrecoverable s.version) (note.Repaired s.version)) note.NotLost))

pub replies_open : (s : Sealed) (j f v : ℕ) → no_such s.width (view_in s) j f ≡ false → lacks s j f ≡ true → (IsRebuildable s j f → ⊥) → v ≡ s.version
    → note.Unrecoverable v ≡ repair_reply s.width (Some (view_in s)) j f
replies_open s j f v there gone not_so same =
    let opened = open_so s j f there gone not_so in
    ap note.Unrecoverable same ∙ (λ i. cond (sym there i) note.NoFragment (cond (sym gone i) (cond (sym opened i) (note.Unrecoverable s.version) (note.Repaired s.version)) note.NotLost))

-- ---- two blobs that one value stands for
both_there : (x : Option (List ℕ)) (gone also : Bool) (p q : List ℕ) → x ≡ cond gone None (Some p) → x ≡ cond also None (Some q) → is_none x ≡ false → p ≡ q
both_there x true also p q e d there = absurd (true≢false (sym (ap is_none e) ∙ there))
both_there x false true p q e d there = absurd (true≢false (sym (ap is_none d) ∙ there))
both_there x false false p q e d there = (let same : Some p ≡ Some q = sym e ∙ d in cc)

module _ (s : Sealed) (b c : List ℕ) (lost also : Lost) (one : StandsFor s b lost) (other : StandsFor s c also) (j : ℕ) (below : j < stripe_count s.code s.width s.len) where
  same_there : (i : ℕ) → i < fragment_count s.code → absent_in s j i ≡ false → fragment s.code s.width b j i ≡ fragment s.code s.width c j i
  same_there i l there = both_there (fragment_at s.stripes j i) (lost_in lost j i) (lost_in also j i) _ _ (one.fragments j i below l) (other.fragments j i below l) there

  long : (x : List ℕ) (f : ℕ) → length (fragment s.code s.width x j f) ≡ s.width
  long x f = length-map-range_with_len (λ p. column s.code (data_at s.code s.width x j p) f) 0 s.width

  -- they agree at each fragment that the remaining ones determine
  pub same_closed : (f : ℕ) → f < fragment_count s.code → (Open s.code (absent_in s j) f → ⊥) → fragment s.code s.width b j f ≡ fragment s.code s.width c j f
  same_closed f inside closed =
      same_number_lists _ _ (long b f ∙ sym (long c f))
      (λ k l. elim (cases_eq (slice_index (fragment s.code s.width b j f) k) (slice_index (fragment s.code s.width c j f) k)) [
        | inl same ↦ same
        | inr differ ↦
            let place : k < s.width = subst (λ n. k < n) (long b f) l in
            absurd (closed (record {
              inside = inside;
              one = λ i. slice_index (fragment s.code s.width b j i) k;
              other = λ i. slice_index (fragment s.code s.width c j i) k;
              one_is = (fragments_are s.code s.width b j one.bytes).stripe.columns k place;
              other_is = (fragments_are s.code s.width c j other.bytes).stripe.columns k place;
              agree = λ i il there. ap (λ x. slice_index x k) (same_there i il there);
              differ = differ;
            }))
      ])

-- ---- what is known by a history serves
same_code : (n m : List ℕ) (code code' : Code) (b c : List ℕ) → put m code' c ≡ put n code b → code' ≡ code
same_code n m code code' b c e = cc

same_bytes : (n m : List ℕ) (code code' : Code) (b c : List ℕ) → put m code' c ≡ put n code b → c ≡ b
same_bytes n m code code' b c e = cc

module _ (w : ℕ) (h : History) (n : List ℕ) (v j f : ℕ) (found : List ℕ) (legal : IsLegal w h) (known : IsFragmentIn h w n v j f found) where
  -- the value represents a blob that the name has after the history
  module _ (s : Sealed) (blob : Blob) (here : finite.get (state_of h).names n ≡ Some blob) (is : Represents w s blob) where
    same_put : v ≡ s.version → put n known.code known.bytes ≡ put n blob.code blob.bytes
    same_put e =
        only_put w h legal blob.version n n blob.code known.code blob.bytes known.bytes (was_put w h legal n blob here)
        (subst (λ u. HasPut h u n known.code known.bytes) (e ∙ is.version) known.put)

    own_fragment : v ≡ s.version → found ≡ fragment s.code s.width blob.bytes j f
    own_fragment e =
        let code : known.code ≡ blob.code = same_code n n blob.code known.code blob.bytes known.bytes (same_put e) in
        let bytes : known.bytes ≡ blob.bytes = same_bytes n n blob.code known.code blob.bytes known.bytes (same_put e) in
        known.is ∙ (λ i. fragment ((code ∙ sym is.code) i) (sym is.width i) (bytes i) j f)

    of_each : v ≡ s.version → IsRebuildable s j f → IsFragmentOf s j f found
    of_each e can c also stands = own_fragment e ∙ same_closed s blob.bytes c blob.lost also is.stands stands j can.has.0 f can.has.1 can.closed

    serves : IsRepairFor v j f found s
    serves = record { long = ap length known.is ∙ length-map-range_with_len (λ p. column known.code (data_at known.code w known.bytes j p) f) 0 w ∙ sym is.width; own = of_each }

  truly_at : (t : List ℕ) (x : Option Sealed) (had : Option Blob) → finite.get (state_of h).names n ≡ had → Correspond w x had → IfSome had (λ b. b.bytes ≡ t) → IfSome x (IsGiven t v j f found)
  truly_at t None had here both is = tt
  truly_at t (Some s) None here both is = absurd both
  truly_at t (Some s) (Some blob) here both is =
      record { long = (serves s blob here both).long; own = λ e. own_fragment s blob here both e ∙ ap (λ (b : List ℕ). fragment s.code s.width b j f) is }

  serves_at : (x : Option Sealed) (had : Option Blob) → finite.get (state_of h).names n ≡ had → Correspond w x had → IfSome x (IsRepairFor v j f found)
  serves_at None had here both = tt
  serves_at (Some s) None here both = absurd both
  serves_at (Some s) (Some blob) here both = serves s blob here both

pub known_serves : (book : Contents) (h : History) (n : List ℕ) (v j f : ℕ) (found : List ℕ) → HoldsHistory book h → IsFragmentIn h book.width n v j f found → IfSome (sealed_at book n) (IsRepairFor v j f found)
known_serves book h n v j f found told known =
    serves_at book.width h n v j f found told.legal known (sealed_at book n) (finite.get (state_of h).names n) refl (told.catalogue n)

pub known_given : (book : Contents) (h : History) (n : List ℕ) (v j f : ℕ) (found : List ℕ) → HoldsHistory book h → IsFragmentIn h book.width n v j f found → IfSome (sealed_at book n) (IsGiven (bytes_in book.truth n) v j f found)
known_given book h n v j f found told known =
    truly_at book.width h n v j f found told.legal known (bytes_in book.truth n) (sealed_at book n) (finite.get (state_of h).names n) refl (told.catalogue n) (told.truth n)

pub given_long : (x : Option Sealed) (t : List ℕ) (v j f : ℕ) (found : List ℕ) → IfSome x (IsGiven t v j f found) → IfSome x (λ s. length found ≡ s.width)
given_long None t v j f found given = tt
given_long (Some s) t v j f found given = given.long

-- ---- what is known stays known after a call
pub fragment_later : (h more : History) (w : ℕ) (n : List ℕ) (v j f : ℕ) (found : List ℕ) → IsFragmentIn h w n v j f found → IsFragmentIn (h ++ more) w n v j f found
fragment_later h more w n v j f found known =
    record {
      code = known.code;
      bytes = known.bytes;
      put = put_later h more v n known.code known.bytes known.put;
      stripe = known.stripe;
      number = known.number;
      is = known.is;
    }

pub known_after : (old new : Contents) (n : List ℕ) (v j f : ℕ) (found : List ℕ) (e : Event) → new.width ≡ old.width → ((h : History) → HoldsHistory old h → HoldsHistory new (h ++ e ∷ []))
    → (h : History) → HoldsHistory old h → IsFragmentIn h old.width n v j f found → (h : History) × HoldsHistory new h × IsFragmentIn h new.width n v j f found
known_after old new n v j f found e width carries h told known =
    (h ++ e ∷ [], carries h told, subst (λ w. IsFragmentIn (h ++ e ∷ []) w n v j f found) (sym width) (fragment_later h (e ∷ []) old.width n v j f found known))
