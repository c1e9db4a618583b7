-- What C passes and gets: the code by its number of data fragments, the lost fragments as the bits
-- of a number, the bytes of a stripe, a recipe in two lists.
use Rattle.std.specs.Prelude.{◌≡◌, ℕ, ◌<◌, ◌≤◌, ◌++◌, ◌==◌, true, false, List, [], ◌∷◌, Option, Some, None, IfSome, MatchOption, if◌then◌else◌, find, map, length, slice_index, slice_index_or, bit_xor, EachIndex}
use Rattle.std.specs.List.{range_with_len}
use Rattle.gf256.specs.Field.{product}
use Rattle.lrc_code.specs.declared.Code.{Code}
use Rattle.lrc_code.specs.declared.Code.TheVariants.{Wide, Small}
use Rattle.lrc_code.specs.Code.{fragment_count, data_count, weight, is_lost}
use Rattle.lrc_code.specs.Stripe.{list_at, RebuildsFrom}
use Rattle.lrc_code.specs.declared.recipes.Term.{Term}

-- the code whose stripes have so many data fragments
abbrev pub code_with : ℕ → Option Code
code_with data_fragments = find (λ code. data_count code == data_fragments) (Wide ∷ Small ∷ [])

-- ---- encoding
-- the fragments of a stripe: the data, and after them the four parities
abbrev pub with_parities : List (List ℕ) → List ℕ → List ℕ → List ℕ → List ℕ → ℕ → List ℕ
with_parities sources first second third fourth = list_at (sources ++ first ∷ second ∷ third ∷ fourth ∷ [])

-- all four parities have w bytes
abbrev pub FourHave : ℕ → List ℕ → List ℕ → List ℕ → List ℕ → Type 0
FourHave w first second third fourth = (length first ≡ w) × (length second ≡ w) × (length third ≡ w) × (length fourth ≡ w)

-- the parity of equation e has the bytes of a data fragment added, times what the fragment weighs there
abbrev pub AddsData : Code → ℕ → ℕ → List ℕ → List ℕ → List ℕ → Type 0
AddsData code e fragment source old new =
    EachIndex new (λ k. slice_index new k ≡ bit_xor (slice_index old k) (product (weight code e fragment) (slice_index source k)))

-- ---- rebuilding
-- the fragment is one of the code's, and lost
abbrev pub IsLostIn : Code → ℕ → ℕ → Type 0
IsLostIn code lost fragment = (fragment < fragment_count code) × (is_lost lost fragment ≡ true)

-- each remaining fragment has at least `to` bytes
abbrev pub LeftReach : Code → List (List ℕ) → ℕ → ℕ → Type 0
LeftReach code fragments lost to = (i : ℕ) → i < fragment_count code → is_lost lost i ≡ false → to ≤ length (list_at fragments i)

-- each stripe that agrees with the remaining fragments at from..to has these bytes there at the
-- fragment
abbrev pub RebuildsLost : Code → List (List ℕ) → ℕ → ℕ → ℕ → ℕ → List ℕ → Type 0
RebuildsLost code fragments lost = RebuildsFrom code (is_lost lost) (list_at fragments)

-- ---- decoding
-- the fragment that a number chooses; 255 chooses none
abbrev pub chosen_by : ℕ → Option ℕ
chosen_by number = if number == 255 then None else Some number

-- the fragments that are chosen for the four targets
abbrev pub chosen_of : List ℕ → List (Option ℕ)
chosen_of numbers = chosen_by (slice_index numbers 0) ∷ chosen_by (slice_index numbers 1) ∷ chosen_by (slice_index numbers 2) ∷ chosen_by (slice_index numbers 3) ∷ []

-- each fragment that is chosen is one of the code's, and lost
abbrev pub AreLostIn : Code → ℕ → List (Option ℕ) → Type 0
AreLostIn code lost chosen = (i : ℕ) → i < 4 → IfSome (slice_index_or chosen i None) (IsLostIn code lost)

-- the target of a fragment that is chosen has w bytes
abbrev pub HasRoomFor : Option ℕ → ℕ → List ℕ → Type 0
HasRoomFor chosen w target = IfSome chosen (λ _. length target ≡ w)

abbrev pub HaveRoomFor : List (Option ℕ) → ℕ → List ℕ → List ℕ → List ℕ → List ℕ → Type 0
HaveRoomFor chosen w first second third fourth =
    HasRoomFor (slice_index_or chosen 0 None) w first × HasRoomFor (slice_index_or chosen 1 None) w second
    × HasRoomFor (slice_index_or chosen 2 None) w third × HasRoomFor (slice_index_or chosen 3 None) w fourth

-- each stripe that agrees with the remaining fragments has the target's bytes at the chosen
-- fragment, from..to. A target for none is unchanged
abbrev pub DecodesLost : Code → List (List ℕ) → ℕ → Option ℕ → ℕ → ℕ → List ℕ → List ℕ → Type 0
DecodesLost code fragments lost chosen from to old new = MatchOption chosen (new ≡ old) (λ f. RebuildsLost code fragments lost f from to new)

-- ---- recipes
-- the terms that two lists have: the first `count` of the fragments, each with the coefficient at its place
abbrev pub terms_of : List ℕ → List ℕ → ℕ → List Term
terms_of fragments coefficients count =
    map (λ k. record { fragment = slice_index fragments k; coefficient = slice_index coefficients k }) (range_with_len 0 count)
