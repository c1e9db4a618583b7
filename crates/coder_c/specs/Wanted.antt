-- What a target of LRC(12,2,2) has once it is decoded by shares.
use Rattle.std.specs.Prelude.{◌≡◌, ℕ, List, Option, IfSome}
use Rattle.lrc_code.specs.declared.Code.TheVariants.{Wide}
use Rattle.decode.specs.DecodePlan.{IsPlanned}
use Rattle.coder_c.specs.Call.{DecodesLost}
use Rattle.coder_c.specs.declared.wanted.Wanted.{Wanted}

-- if the shares give the fragment that the target is for, the target has its bytes
abbrev pub DecodesWanted : List (List ℕ) → ℕ → Wanted → ℕ → ℕ → List ℕ → List ℕ → Type 0
DecodesWanted fragments missing wanted from to old new =
    IfSome wanted.chosen (λ f. IsPlanned Wide missing f wanted.shares)
    → DecodesLost Wide fragments missing wanted.chosen from to old new

-- the target is for the chosen fragment, which its shares give from those that are not lost
abbrev pub GivesLost : ℕ → Option ℕ → Wanted → Type 0
GivesLost lost chosen wanted = (wanted.chosen ≡ chosen) × IfSome chosen (λ f. IsPlanned Wide lost f wanted.shares)
