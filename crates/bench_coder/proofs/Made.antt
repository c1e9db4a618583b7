-- What encoding and sealing make, as the lists that are written from it need it.
use Rattle.std.proofs.Common.{◌≡◌, ℕ, ◌+◌, ◌<◌, ◌++◌, [], List, length, map, get_or, None, Some, cond, sym, ap, ◌∙◌, arith, Bor, Vec, Global}
use Rattle.std.proofs.lemmas.List.{get_or-append-add, get_or-map, length-map}
use Rattle.std.specs.FinSet as set
use Rattle.lrc_code.specs.declared.Code.{Code}
use Rattle.lrc_code.specs.Code.{fragment_count}
use Rattle.lrc_code.specs.Stripe.{IsStripe, list_at}
use Rattle.sealed.specs.declared.value.Sealed.{Sealed}
use Rattle.sealed.specs.Blob.{fragment, nothing, pair_cmp}
use Rattle.sealed.specs.Layout.{stripe_count}
use Rattle.sealed.specs.Sealed.{StandsFor}
use Rattle.sealed.specs.Stripes.{fragment_at}

-- the parities of a stripe are as long as its data
pub parity_length : (sources : List (Bor (List ℕ))) (parities : List (Vec ℕ Global)) (w i : ℕ) (p : Vec ℕ Global) → length sources ≡ 12 → length parities ≡ 4
    → IsStripe Code.Wide w (list_at (map (λ s. s.now) sources ++ map (λ v. v.items) parities)) → i < 4 → length (get_or parities i p).items ≡ w
parity_length sources parities w i p count four stripe below =
    let lists : List (List ℕ) = map (λ s. s.now) sources in
    let is : list_at (lists ++ map (λ v. v.items) parities) (length lists + i) ≡ (get_or parities i p).items
    = get_or-append-add lists (map (λ v. v.items) parities) i [] ∙ get_or-map (λ v. v.items) parities i p [] (omega arith) in
    sym (ap (length {A = ℕ}) is) ∙ stripe.width (length lists + i) (omega (arith, length-map sources (λ s. s.now)))

-- where nothing is lost, each fragment is there
pub all_there : (s : Sealed) (b : List ℕ) → StandsFor s b nothing → (j f : ℕ) → j < stripe_count s.code s.width s.len → f < fragment_count s.code
    → fragment_at s.stripes j f ≡ Some (fragment s.code s.width b j f)
all_there s b stands j f below inside =
    stands.fragments j f below inside ∙ ap (λ lost. cond lost None (Some (fragment s.code s.width b j f))) (set.contains-empty pair_cmp (j, f))
