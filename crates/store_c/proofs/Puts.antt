-- A put with the arguments that C passed, and of the bytes that a slot holds.
use Rattle.std.proofs.Common.{◌≡◌, ℕ, List, Option, Some, sym, subst}
use Rattle.lrc_code.specs.declared.Code.{Code}
use Rattle.history.specs.Names.{IsName}
use Rattle.std.specs.Prelude.{MatchOption}
use Rattle.shared.specs.Passes.{Shows}
use Rattle.session.specs.declared.held.Held.{Held}
use Rattle.store_c.specs.Status.{empty, code_with}
use Rattle.store_c.specs.OnSession.{IsPutOf, IsPutCall, accepted_put}
use Rattle.store_c.specs.Buffers.{bytes_held, IsSpent, IsPutFrom}

-- if the slot had bytes
pub put_from : (v : Shows) (other : Option Held) (name : List ℕ) (data_fragments status : ℕ) (versions : ℕ × ℕ) (w : Shows) (given : Option Held) (bytes : List ℕ) → bytes_held other ≡ Some bytes
    → IsPutCall v name bytes data_fragments status versions.0 versions.1 w → IsSpent bytes status given → IsPutFrom v other name data_fragments status versions w given
put_from v other name data_fragments status versions w given bytes had put spent =
    subst (λ (had : Option (List ℕ)). MatchOption had ((status ≡ empty) × (versions.1 ≡ versions.0) × (w ≡ v) × (given ≡ other))
    (λ bytes. IsPutCall v name bytes data_fragments status versions.0 versions.1 w × IsSpent bytes status given)) (sym had) (put, spent)

-- if the arguments are a name, given in another form, and a code
pub accepted : (v : Shows) (m n bytes : List ℕ) (data_fragments : ℕ) (code : Code) (status before after : ℕ) (w : Shows) → IsName n → m ≡ n → code_with data_fragments ≡ Some code
    → IsPutOf v m code bytes status before after w → IsPutCall v n bytes data_fragments status before after w
accepted v m n bytes data_fragments code status before after w named same coded put =
    accepted_put code named coded (subst (λ k. IsPutOf v k code bytes status before after w) same put)
