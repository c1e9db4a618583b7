-- How many stripes a set has, and which bytes are the record of one.
use Rattle.std.specs.Prelude.{◌≡◌, ℕ, ◌+◌, ◌*◌, ◌<◌, ◌≤◌, List, length}
use Rattle.fragments.specs.declared.records.Place.{Place}
use Rattle.fragments.specs.Record.{IsRecord}
use Rattle.lrc_code.specs.Code.{data_count}
use Rattle.fragment_header.specs.declared.header.Header.{Header}

-- how many bytes of the file a stripe holds
abbrev pub stripe_bytes : Header → ℕ
stripe_bytes h = data_count h.code * h.width

-- n stripes hold the whole file, and fewer do not
pub record HasStripes (h : Header) (n : ℕ) : Type 0 where
  pub enough : h.len ≤ n * stripe_bytes h
  pub least : n * stripe_bytes h < h.len + stripe_bytes h

abbrev pub place_in : Header → ℕ → ℕ → Place
place_in h f stripe = record { set = h.set; fragment = f; stripe = stripe }

-- the bytes are a block of fragment f of this stripe, and its digest
abbrev pub HoldsRecord : Header → ℕ → ℕ → List ℕ → Type 0
HoldsRecord h f stripe bytes = (length bytes ≡ h.width + 32) × IsRecord (place_in h f stripe) h.width bytes
