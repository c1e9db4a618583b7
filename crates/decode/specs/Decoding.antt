-- What decoding writes, and where the fragments stand among the sixteen lists whose syndromes are
-- computed.
use Rattle.std.specs.Prelude.{◌≡◌, ℕ, ◌-◌, ◌<◌, Bool, true, List, Option, Some, None, IfSome}
use Rattle.std.specs.Prelude.{IsSomeAnd, MatchOption, nat_lt, slice_index_or, if◌then◌else◌}
use Rattle.std.specs.Borrow.{Bor}
use Rattle.lrc_code.specs.declared.Code.{Code}
use Rattle.lrc_code.specs.declared.Code.TheVariants.{Wide, Small}
use Rattle.lrc_code.specs.Code.{fragment_count, is_lost, Open}
use Rattle.lrc_code.specs.Stripe.{is_absent, Rebuilds}

-- the set has the numbers of the fragments that are absent
abbrev pub AreAbsent : Code → List (Option (Bor (List ℕ))) → ℕ → Type 0
AreAbsent code fragments lost = (i : ℕ) → i < fragment_count code
    → is_lost lost i ≡ is_absent fragments i

-- one of the four fragments that are chosen is open
abbrev pub HasOpen : Code → (ℕ → Bool) → List (Option ℕ) → Type 0
HasOpen code lost chosen = (i : ℕ) × (i < 4) × IsSomeAnd (slice_index_or chosen i None)
    (Open code lost)

-- a fragment that is chosen is one of the code's, is absent, and is not open
abbrev pub IsDecodable : Code → List (Option (Bor (List ℕ))) → Option ℕ → Type 0
IsDecodable code fragments chosen = IfSome chosen (λ f. (f < fragment_count code)
    × (is_absent fragments f ≡ true) × (Open code (is_absent fragments) f → ⊥))

-- a target has the bytes from..to of the fragment that is chosen, and is unchanged where none is
abbrev pub IsDecoded : Code → List (Option (Bor (List ℕ))) → Option ℕ → ℕ → ℕ → List ℕ → List ℕ
    → Type 0
IsDecoded code fragments chosen from to old new = MatchOption chosen (new ≡ old)
    (λ f. Rebuilds code fragments f from to new)

-- the fragment at a place: a group of LRC(6,2,2) lacks the last three data fragments of a group of
-- LRC(12,2,2)
abbrev pub fragment_in_place : Code → ℕ → Option ℕ
fragment_in_place Wide place = Some place
fragment_in_place Small place =
    if nat_lt place 3 then Some place else if nat_lt place 6 then None else if nat_lt place 9 then
    Some (place - 3) else if nat_lt place 12 then None else Some (place - 6)

-- the byte at a place, or 0 where no fragment stands
abbrev pub byte_in_place : Option ℕ → (ℕ → ℕ) → ℕ
byte_in_place None b = 0
byte_in_place (Some f) b = b f
