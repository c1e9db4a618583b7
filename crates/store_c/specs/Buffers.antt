-- Buffers: bytes that C fills, and that are put without a copy.
use Rattle.std.specs.Prelude.{◌≡◌, ◌≢◌, ℕ, List, Option, Some, None, MatchOption, replicate}
use Rattle.std.specs.declared.vec.Vec.{Vec}
use Rattle.std.specs.declared.alloc.Global.{Global}
use Rattle.shared.specs.Passes.{Shows}
use Rattle.session.specs.declared.held.Held.{Held}
use Rattle.session.specs.declared.held.Held.TheVariants.{Buffer, Refused}
use Rattle.store_c.specs.Status.{done, empty, no_memory, occupied}
use Rattle.store_c.specs.OnSession.{IsPutCall}

-- with `done` the slot holds a buffer of this many zero bytes, and otherwise nothing
pub data IsReserve (len status : ℕ) (new : Option Held) : Type 0 where
  reserved : (v : Vec ℕ Global) → status ≡ done → v.items ≡ replicate len 0 → new ≡ Some (Buffer v) → IsReserve len status new
  no_room_to_reserve : status ≡ no_memory → new ≡ None → IsReserve len status new

-- the slot is empty before; or nothing was done
abbrev pub IsReserveCall : Option Held → ℕ → ℕ → Option Held → Type 0
IsReserveCall None len status new = IsReserve len status new
IsReserveCall (Some held) len status new = (status ≡ occupied) × (new ≡ Some held)

-- a buffer that no put has taken is lent for writing; or nothing was done
abbrev pub IsBufferCall : Option Held → ℕ → List ℕ → List ℕ → Type 0
IsBufferCall (Some (Buffer v)) status old new = (status ≡ done) × (new ≡ v.items)
IsBufferCall held status old new = (status ≡ empty) × (new ≡ old)

-- the bytes of a slot that can be put
abbrev pub bytes_held : Option Held → Option (List ℕ)
bytes_held (Some (Buffer v)) = Some v.items
bytes_held (Some (Refused bytes)) = Some bytes
bytes_held held = None

-- they are gone if they were put, and otherwise still there
pub record IsSpent (bytes : List ℕ) (status : ℕ) (given : Option Held) : Type 0 where
  pub put : status ≡ done → given ≡ None
  pub kept : status ≢ done → bytes_held given ≡ Some bytes

-- the bytes in the other slot were put; or it has none, and nothing was done
abbrev pub IsPutFrom : Shows → Option Held → List ℕ → ℕ → ℕ → ℕ × ℕ → Shows → Option Held → Type 0
IsPutFrom v other name data_fragments status versions w given =
    MatchOption (bytes_held other) ((status ≡ empty) × (versions.1 ≡ versions.0) × (w ≡ v) × (given ≡ other))
    (λ bytes. IsPutCall v name bytes data_fragments status versions.0 versions.1 w × IsSpent bytes status given)
