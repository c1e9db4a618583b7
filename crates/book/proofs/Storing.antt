-- A put carries histories on.
use Rattle.std.proofs.Common.{◌≡◌, ℕ, ◌+◌, ◌≤◌, Bool, true, false, List, [], ◌∷◌, ◌++◌, take, drop, Option, Some, cond, length, refl, sym, ap, ◌∙◌, subst, arith}
use Rattle.std.specs.Prelude.{count_by}
use Rattle.std.specs.FinMap as finite
use Rattle.std.specs.Cmp.Lexicographic.{nat_list_cmp_total}
use Rattle.std.proofs.lemmas.Cmp.{eq_by_cmp_equiv}
use Rattle.std.proofs.lemmas.List.{take-append-drop}
use Rattle.std.specs.BTreeMap.{is_at}
use Rattle.sealed.specs.declared.value.Sealed.{Sealed}
use Rattle.sealed.specs.Layout.{stripe_count}
use Rattle.sealed.specs.Blob.{nothing, IsBlob}
use Rattle.sealed.specs.Sealed.{StandsFor}
use Rattle.history.specs.Names.{name_cmp}
use Rattle.history.specs.State.{State, Blob, empty_state}
use Rattle.history.specs.Step.{put, after}
use Rattle.history.specs.History.{Event, History, after_all, state_of, entry_of}
use Rattle.book.specs.Contents.{Contents, sealed_at}
use Rattle.book.specs.Holds.{HoldsHistory, Represents, Correspond, CarriesOn}
use Rattle.history.specs.History.{is_put}
use Rattle.history.specs.declared.note.Note.TheVariants as note
use Rattle.history.specs.declared.note.Call.TheVariants.{Put}
use Rattle.book.specs.declared.answer.Answer.TheVariants.{Stored}
use Rattle.history.proofs.Beginnings.{after_all-append}
use Rattle.history.proofs.Puts.{puts-after_all}
use Rattle.book.proofs.Carrying.{carried}
use Rattle.book.specs.BlobBytes.{blob_bytes}
use Rattle.book.specs.Truth.{AreTrue}
use Rattle.book.proofs.Truths.{put_true}
use Rattle.book.proofs.BlobBytes.{bytes_are}

-- the number of puts is that of the base and of the entries
puts_counted : (book : Contents) (h : History) → HoldsHistory book h → (state_of h).puts ≡ book.base.puts + count_by is_put book.entries
puts_counted book h told =
    let t = book.base.trimmed in
    let whole : state_of h ≡ after_all (state_of (take t h)) (drop t h) = ap state_of (sym (take-append-drop t h)) ∙ after_all-append empty_state (take t h) (drop t h) in
    let puts : (state_of h).puts ≡ (after_all (state_of (take t h)) (drop t h)).puts = ap (λ (s : State). s.puts) whole in
    puts ∙ puts-after_all (state_of (take t h)) (drop t h) ∙ omega (arith, told.base.puts, ap (count_by is_put) told.entries)

pub corresponds : (w : ℕ) (b : Bool) (s : Sealed) (blob : Blob) (found : Option Sealed) (had : Option Blob) → Represents w s blob → Correspond w found had → Correspond w (cond b (Some s) found) (cond b (Some blob) had)
corresponds w true s blob found had is same = is
corresponds w false s blob found had is same = same

another_version : (s : Sealed) (b : List ℕ) (v : ℕ) → StandsFor s b nothing → StandsFor (record s { version = v }) b nothing
another_version s b v stands = record { bytes = stands.bytes; length_is = stands.length_is; fragments = stands.fragments }

can_be_stored : (s : Sealed) (b : List ℕ) (w : ℕ) → s.width ≡ w → StandsFor s b nothing → IsBlob s.code w b
can_be_stored s b w width stands =
    let count : length s.stripes ≡ stripe_count s.code s.width s.len = s.shaped.count in
    let same : stripe_count s.code s.width s.len ≡ stripe_count s.code w (length b) = ap (λ v. stripe_count s.code v s.len) width ∙ ap (stripe_count s.code w) stands.length_is in
    let P : ℕ → Type 0 = λ m. m ≤ 4096 in
    record { bytes = stands.bytes; few = subst P same (subst P count s.shaped.few) }

pub carries_put : (old new : Contents) (who : ℕ) (n : List ℕ) (s : Sealed) (b : List ℕ) (v : ℕ) → s.width ≡ old.width → StandsFor s b nothing
    → v ≡ old.base.puts + count_by is_put old.entries + 1 → new.width ≡ old.width → new.base ≡ old.base
    → new.entries ≡ old.entries ++ record { who = who; call = Put n s.code s.len; note = note.Stored v } ∷ []
    → ((q : List ℕ) → sealed_at new q ≡ cond (is_at (name_cmp n) q) (Some (record s { version = v })) (sealed_at old q))
    → new.truth ≡ (n, blob_bytes s) ∷ old.truth
    → CarriesOn old new who (put n s.code b) (Stored v)
carries_put old new who n s b v width stands counted same_width same_base entries looks truth h told =
    let e : Event = record { who = who; operation = put n s.code b; note = note.Stored v } in
    let puts : v ≡ (state_of h).puts + 1 = omega (arith, puts_counted old h told) in
    let same_entry : entry_of e ≡ record { who = who; call = Put n s.code s.len; note = note.Stored v } = ap (λ l. record { who = who; call = Put n s.code l; note = note.Stored v }) (sym stands.length_is) in
    let blob : Blob = record { version = (state_of h).puts + 1; bytes = b; code = s.code; lost = nothing } in
    let represents : Represents old.width (record s { version = v }) blob = record { version = puts; width = width; code = refl; stands = another_version s b v stands } in
    carried old new h e told (can_be_stored s b old.width width stands, ap note.Stored puts) same_width same_base (entries ∙ ap (λ x. old.entries ++ x ∷ []) (sym same_entry))
    (λ q. let K : Option Sealed → Option Blob → Type 0 = Correspond old.width in
    let there : Bool = is_at (name_cmp n) q in
    let both : Correspond old.width (cond there (Some (record s { version = v })) (sealed_at old q)) (cond there (Some blob) (finite.get (state_of h).names q)) =
    corresponds old.width there (record s { version = v }) blob (sealed_at old q) (finite.get (state_of h).names q) represents (told.catalogue q) in
    let gets : finite.get (finite.insert (state_of h).names n blob) q ≡ cond there (Some blob) (finite.get (state_of h).names q) =
    finite.get-insert nat_list_cmp_total (state_of h).names n blob q ∙ ap (λ t. cond t (Some blob) (finite.get (state_of h).names q)) ((eq_by_cmp_equiv nat_list_cmp_total).symm q n) in
    subst (K (sealed_at new q)) (sym gets) (subst (λ x. K x (cond there (Some blob) (finite.get (state_of h).names q))) (sym (looks q)) both))
    (subst (λ t. AreTrue t (after (state_of h) (put n s.code b) (note.Stored v))) (sym (truth ∙ ap (λ x. (n, x) ∷ old.truth) (bytes_are s b stands))) (put_true old.truth (state_of h) told.truth n b s.code (note.Stored v)))
