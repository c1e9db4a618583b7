-- The fragments that a sealed value lacks, and the view of it that determines the replies.
use Rattle.std.specs.Prelude.{ℕ, zero, suc, ◌*◌, ◌/◌, ◌%◌, Bool, ◌&&◌, List, [], ◌∷◌, ◌++◌, Option, None, Some, cond, nat_lt, length}
use Rattle.lrc_code.specs.Code.{fragment_count}
use Rattle.lrc_code.specs.Count.{count_below}
use Rattle.sealed.specs.declared.value.Sealed.{Sealed}
use Rattle.sealed.specs.Sealed.{absent_in}
use Rattle.history.specs.declared.note.Note.{Note}
use Rattle.history.specs.declared.note.Note.TheVariants.{NoName}
use Rattle.history.specs.Views.{View}

-- the value has such a fragment, and it is absent
abbrev pub lacks : Sealed → ℕ → ℕ → Bool
lacks s j f = nat_lt j (length s.stripes) && (nat_lt f (fragment_count s.code) && absent_in s j f)

-- how many fragments the value lacks. The fragment f of stripe j is counted as the number 16 j + f
abbrev pub lacked_count : Sealed → ℕ
lacked_count s = count_below (λ i. lacks s (i / 16) (i % 16)) (16 * length s.stripes)

-- those of them that are numbered below n, in order
abbrev pub lacked_below : Sealed → ℕ → List (ℕ × ℕ)
lacked_below s zero = []
lacked_below s (suc n) = cond (lacks s (n / 16) (n % 16)) (lacked_below s n ++ (n / 16, n % 16) ∷ []) (lacked_below s n)

abbrev pub view_in : Sealed → View
view_in s = record { version = s.version; len = s.len; code = s.code; lost = lacks s; count = lacked_count s }

-- a reply by the sealed value of the name, at its own width
abbrev pub reply_for : (ℕ → Option View → Note) → Option Sealed → Note
reply_for reply None = NoName
reply_for reply (Some s) = reply s.width (Some (view_in s))
