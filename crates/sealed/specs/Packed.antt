-- The stripes of a blob as they are sealed: slices of the blob's bytes and of the parities of all its stripes.
use Rattle.std.specs.Prelude.{◌≡◌, ◌==◌, ◌&&◌, ℕ, ◌+◌, ◌-◌, ◌*◌, ◌<◌, ◌≤◌, List, Option, None, Some, [], map, length, nat_lt, slice_range, slice_index_or, take, drop, if◌then◌else◌}
use Rattle.std.specs.List.{range_with_len}
use Rattle.lrc_code.specs.declared.Code.{Code}
use Rattle.lrc_code.specs.Code.{data_count, fragment_count}
use Rattle.sealed.specs.declared.packed.Parts.{Parts}
use Rattle.sealed.specs.Layout.{stripe_size}
use Rattle.sealed.specs.Stripes.{Stripes, fragment_at}
use Rattle.sealed.specs.Blob.{fragment}

-- the blob's bytes: those of the parts, or else the first bytes of the others, of which a stripe
-- holds so many
abbrev pub data_bytes : {A : Type 0} → (A → Parts) → Option A → List ℕ → ℕ → List ℕ
data_bytes inner (Some parts) joined size = (inner parts).blob
data_bytes inner None joined size = take size joined

-- those of a last, partial stripe: there are none without parts
abbrev pub last_bytes : {A : Type 0} → (A → Parts) → Option A → List ℕ
last_bytes inner (Some parts) = (inner parts).last
last_bytes inner None = []

-- and the parities: what follows the first bytes
abbrev pub parity_bytes : {A : Type 0} → (A → Parts) → Option A → List ℕ → ℕ → List ℕ
parity_bytes inner (Some parts) joined size = (inner parts).parities
parity_bytes inner None joined size = drop size joined

-- the bytes that stripe j holds: those of the blob, or the padded last ones if the blob does not
-- fill the stripe
abbrev pub held_by : ℕ → List ℕ → List ℕ → ℕ → List ℕ
held_by size blob last j = if nat_lt (length blob) (size * j + size) then last else slice_range blob (size * j) (size * j + size)

-- the four parities of stripe j, one after the other
abbrev pub parities_by : ℕ → List ℕ → ℕ → List ℕ
parities_by w parities j = slice_range parities (4 * w * j) (4 * w * j + 4 * w)

-- these are the parities of the stripe that holds these bytes
pub record AreParitiesOf (code : Code) (w : ℕ) (held parities : List ℕ) : Type 0 where
  pub long : length parities ≡ 4 * w
  pub each : (k : ℕ) → k < 4 → slice_range parities (w * k) (w * k + w) ≡ fragment code w held 0 (data_count code + k)

-- the fragment f of the stripe that holds these bytes and has these parities
abbrev pub part_of : Code → ℕ → List ℕ → List ℕ → ℕ → Option (List ℕ)
part_of code w held parities f =
    if nat_lt f (data_count code) then Some (slice_range held (w * f) (w * f + w))
    else if nat_lt f (fragment_count code) then Some (slice_range parities (w * (f - data_count code)) (w * (f - data_count code) + w))
    else None

-- its sixteen slots
abbrev pub parts_of : Code → ℕ → List ℕ → List ℕ → List (Option (List ℕ))
parts_of code w held parities = map (part_of code w held parities) (range_with_len 0 16)

-- the first stripes, as many as `count`
unfoldable pub packed : Code → ℕ → List ℕ → List ℕ → List ℕ → ℕ → Stripes
packed code w blob last parities count =
    map (λ j. parts_of code w (held_by (stripe_size code w) blob last j) (parities_by w parities j)) (range_with_len 0 count)

-- the three lists are long enough for this many stripes
pub record ArePacked (code : Code) (w : ℕ) (blob last parities : List ℕ) (count : ℕ) : Type 0 where
  pub few : count ≤ 4096
  pub begin : (j : ℕ) → j < count → stripe_size code w * j < length blob
  pub hold : (j : ℕ) → j < count → length (held_by (stripe_size code w) blob last j) ≡ stripe_size code w
  pub complete : length parities ≡ 4 * w * count

-- the fragment f of stripe j in these parts
abbrev pub slot_in : Code → ℕ → Parts → ℕ → ℕ → Option (List ℕ)
slot_in code w parts j f = part_of code w (held_by (stripe_size code w) parts.blob parts.last j) (parities_by w parts.parities j) f

-- of the first stripes, as many as `count`, the fragment f of stripe j alone was written
pub record IsWritten (code : Code) (w count j f : ℕ) (bytes : List ℕ) (old new : Parts) : Type 0 where
  pub still : ArePacked code w old.blob old.last old.parities count → ArePacked code w new.blob new.last new.parities count
  pub slots : ArePacked code w old.blob old.last old.parities count
      → (i g : ℕ) → i < count → slot_in code w new i g ≡ (if (i == j) && (g == f) then Some bytes else slot_in code w old i g)

-- the bytes are those of b, with zeros after them
pub record IsPadded (b bytes : List ℕ) : Type 0 where
  pub long : length b ≤ length bytes
  pub same : (i : ℕ) → slice_index_or bytes i 0 ≡ slice_index_or b i 0

-- the first `count` stripes of `blob` and `last` hold the bytes of b, with zeros after them, and
-- `parities` has their parities
pub record ArePackedOf (code : Code) (w : ℕ) (b blob last parities : List ℕ) (count : ℕ) : Type 0 where
  pub hold : (j : ℕ) → j < count → length (held_by (stripe_size code w) blob last j) ≡ stripe_size code w
  pub same : (j i : ℕ) → j < count → i < stripe_size code w
      → slice_index_or (held_by (stripe_size code w) blob last j) i 0 ≡ slice_index_or b (stripe_size code w * j + i) 0
  pub encoded : (j : ℕ) → j < count → AreParitiesOf code w (held_by (stripe_size code w) blob last j) (parities_by w parities j)

-- the first `count` stripes of b, without lost fragments. A slot that the code does not use is empty
pub record AreWhole (code : Code) (w : ℕ) (b : List ℕ) (count : ℕ) (stripes : Stripes) : Type 0 where
  pub counted : length stripes ≡ count
  pub present : (j f : ℕ) → j < count → f < fragment_count code → fragment_at stripes j f ≡ Some (fragment code w b j f)
  pub others : (j f : ℕ) → j < count → fragment_count code ≤ f → fragment_at stripes j f ≡ None
