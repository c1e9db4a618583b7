-- Whole blobs that C gets.
use Rattle.std.proofs.Common.{◌≡◌, ◌≢◌, ◌⊎◌, ◌+◌, ◌-◌, ◌≤◌, ℕ, List, Option, None, Some, Result, Ok, Err, IfOk, IfSome, IfNone, length, take, true, false, inl, inr, refl, sym, ap, subst, ◌∙◌, arith}
use Rattle.std.specs.FinMap as finite
use Rattle.std.specs.List.{concat}
use Rattle.std.proofs.lemmas.List.{take_all}
use Rattle.sealed.specs.declared.fault.Fault.{Fault}
use Rattle.sealed.specs.declared.fault.Fault.TheVariants.{Busy, NoMemory}
use Rattle.sealed.specs.declared.value.Sealed.{Sealed}
use Rattle.history.specs.Names.{IsName}
use Rattle.history.specs.State.{Blob}
use Rattle.history.specs.History.{History, state_of}
use Rattle.book.proofs.Reading.{outside_false}
use Rattle.shared.specs.Passes.{Shows, ReceiptShows, FindsBusy}
use Rattle.shared.specs.Calls.{CanGrant}
use Rattle.shared.specs.Snapshots.{HasNoBlob, IsVersionIn}
use Rattle.named_calls.specs.Taken.{TakesSnapshot}
use Rattle.session.specs.declared.held.Held.{Held}
use Rattle.session.specs.KnownFault.{IsBusyOrCallFault}
use Rattle.session.specs.VersionShows.{VersionShows, IsHeldFrom, sealed_in}
use Rattle.store_c.specs.Status.{no_memory, no_name, not_rebuilt, status_of_fault}
use Rattle.store_c.specs.OnSession.{HasBytes}
use Rattle.store_c.specs.Versions.{IsRange, granted_range, outside_range, unreadable_range, no_room_for_range}
use Rattle.store_c.specs.Get.{HasWhole, IsGet, got, got_unlent, nothing_to_get, get_refused}

one_blob : (h : History) (n : List ℕ) (a b : Blob) → finite.get (state_of h).names n ≡ Some a → finite.get (state_of h).names n ≡ Some b → a ≡ b
one_blob h n a b at_a at_b = let same : Some a ≡ Some b = sym at_a ∙ at_b in cc

-- a range from 0 to the length of the version is the whole blob
whole_of : (h : History) (w : ℕ) (n : List ℕ) (s : Sealed) (bytes : List ℕ) (version : ℕ) → IsVersionIn h w n s → HasBytes h n 0 s.len bytes version → HasWhole h n bytes version
whole_of h w n s bytes version v b =
    let same : v.blob ≡ b.blob = one_blob h n v.blob b.blob v.here b.here in
    let long : s.len ≡ length b.blob.bytes = v.represents.stands.length_is ∙ ap (λ (x : Blob). length x.bytes) same in
    let fits : length b.blob.bytes ≤ s.len = omega (arith, long) in
    let span : (0 + s.len) - 0 ≡ s.len = omega arith in
    record {
      blob = b.blob;
      here = b.here;
      bytes_are = b.bytes_are ∙ ap (λ (k : ℕ). take k b.blob.bytes) span ∙ take_all s.len b.blob.bytes fits;
      version_is = b.version_is;
      put_is = b.put_is;
    }

renamed : (v : Shows) (m n : List ℕ) (status : ℕ) (before after : ℕ × ℕ × ℕ) (w : Shows) (given : Option Held) → m ≡ n → IsGet v m status before after w given → IsGet v n status before after w given
renamed v m n status before after w given same is = subst (λ (k : List ℕ). IsGet v k status before after w given) same is

held_whole : (w : Shows) (n : List ℕ) (x : VersionShows) (bytes : List ℕ) → IsHeldFrom w n x → HasBytes x.known.seen x.name 0 x.sealed.len bytes x.sealed.version → HasWhole w.seen n bytes x.sealed.version
held_whole w n x bytes from b =
    let whole = whole_of x.known.seen x.known.store.width x.name x.sealed bytes x.sealed.version from.version.version b in
    subst (λ (r : ReceiptShows). HasWhole r.seen n bytes x.sealed.version) from.known_is
    (subst (λ (k : List ℕ). HasWhole x.known.seen k bytes x.sealed.version) from.name_is whole)

-- the status of the range, where the history has the read by now
abbrev pub IsStatusFor : ℕ → ℕ → Type 0
IsStatusFor range status = ((range ≡ no_memory) × (status ≡ not_rebuilt)) ⊎ ((range ≢ no_memory) × (status ≡ range))

-- what was lent of a version that was held
get_of : (v w : Shows) (n : List ℕ) (x : VersionShows) (range status : ℕ) (before : ℕ × ℕ × ℕ) (pieces : ℕ) (given : Option Held) → IsStatusFor range status → IsName n → TakesSnapshot v n (Ok (Some x.sealed)) w → IsHeldFrom w n x
    → IsRange x 0 x.sealed.len range (before.2, pieces) given → IsGet v n status before (x.sealed.version, x.sealed.len, pieces) w given
get_of v w n x range status before pieces given (inl (lacks, is_status)) named taken from (granted_range g is range_is lent lends bytes count_is given_is) = absurd (omega (arith, lacks, range_is))
get_of v w n x range status before pieces given (inr (other, is_status)) named taken from (granted_range g is range_is lent lends bytes count_is given_is) =
    got named x (is_status ∙ range_is) taken from lent (held_whole w n x (concat lent) from bytes) (λ i. (x.sealed.version, x.sealed.len, count_is i)) given_is
get_of v w n x range status before pieces given for named taken from (outside_range is range_is count_is given_is) =
    absurd (let no : false ≡ true = sym (outside_false x.sealed.len 0 x.sealed.len (omega arith)) ∙ is in cc)
get_of v w n x range status before pieces given (inl (lacks, is_status)) named taken from (unreadable_range is range_is count_is given_is) = absurd (omega (arith, lacks, range_is))
get_of v w n x range status before pieces given (inr (other, is_status)) named taken from (unreadable_range is range_is count_is given_is) =
    got_unlent named x taken from (record { cause = inl (is_status ∙ range_is, is); after_is = λ i. (x.sealed.version, x.sealed.len, count_is i) }) given_is
get_of v w n x range status before pieces given (inl (lacks, is_status)) named taken from (no_room_for_range range_is count_is given_is) =
    got_unlent named x taken from (record { cause = inr is_status; after_is = λ i. (x.sealed.version, x.sealed.len, count_is i) }) given_is
get_of v w n x range status before pieces given (inr (other, is_status)) named taken from (no_room_for_range range_is count_is given_is) = absurd (other range_is)

-- the session held a version
pub got_by : (v w : Shows) (m n : List ℕ) (r : Result (Option VersionShows) Fault) (x : VersionShows) (range status len : ℕ) (before after : ℕ × ℕ × ℕ) (given : Option Held) → IsStatusFor range status → r ≡ Ok (Some x) → m ≡ n → IsName n
    → TakesSnapshot v m (sealed_in r) w → IfOk r (λ f. IfSome f (IsHeldFrom w m)) → len ≡ x.sealed.len → IsRange x 0 len range (before.2, after.2) given → after ≡ (x.sealed.version, x.sealed.len, after.2) → IsGet v n status before after w given
got_by v w m n r x range status len before after given for r_is same named taken from len_is lent after_is =
    renamed v m n status before after w given same
    (subst (λ (a : ℕ × ℕ × ℕ). IsGet v m status before a w given) (sym after_is)
    (get_of v w m x range status before after.2 given for (subst IsName (sym same) named) (subst (λ (f : Result (Option VersionShows) Fault). TakesSnapshot v m (sealed_in f) w) r_is taken)
    (subst (λ (f : Result (Option VersionShows) Fault). IfOk f (λ o. IfSome o (IsHeldFrom w m))) r_is from)
    (subst (λ (l : ℕ). IsRange x 0 l range (before.2, after.2) given) len_is lent)))

-- the name has no blob
pub none_by : (v w : Shows) (m n : List ℕ) (r : Result (Option VersionShows) Fault) (before after : ℕ × ℕ × ℕ) (given : Option Held) → r ≡ Ok None → m ≡ n → IsName n
    → TakesSnapshot v m (sealed_in r) w → IfOk r (λ f. IfNone f (HasNoBlob w.seen m)) → after ≡ before → given ≡ None → IsGet v n no_name before after w given
none_by v w m n r before after given r_is same named taken none after_is given_is =
    renamed v m n no_name before after w given same
    (nothing_to_get (subst IsName (sym same) named) refl (subst (λ (f : Result (Option VersionShows) Fault). TakesSnapshot v m (sealed_in f) w) r_is taken)
    (subst (λ (f : Result (Option VersionShows) Fault). IfOk f (λ o. IfNone o (HasNoBlob w.seen m))) r_is none) after_is given_is)

-- it was refused
pub refused_by : (v w : Shows) (m n : List ℕ) (r : Result (Option VersionShows) Fault) (e : Fault) (status : ℕ) (before after : ℕ × ℕ × ℕ) (given : Option Held) → r ≡ Err e → m ≡ n → IsName n → status ≡ status_of_fault e → IsBusyOrCallFault e
    → TakesSnapshot v m (sealed_in r) w → (r ≡ Err NoMemory → CanGrant w.seen v.store.width m 0 0) → (r ≡ Err Busy → FindsBusy v w) → (v.room ≡ 64 → r ≢ Err Busy) → after ≡ before → given ≡ None → IsGet v n status before after w given
refused_by v w m n r e status before after given r_is same named status_is known taken no_memory busy lone after_is given_is =
    let like : (k : Fault) → e ≡ k → r ≡ Err k = λ k i. r_is ∙ ap Err i in
    renamed v m n status before after w given same
    (get_refused (subst IsName (sym same) named) e status_is known (subst (λ (f : Result (Option VersionShows) Fault). TakesSnapshot v m (sealed_in f) w) r_is taken)
    (λ i. no_memory (like NoMemory i)) (λ i. busy (like Busy i)) (λ room i. lone room (like Busy i)) after_is given_is)
