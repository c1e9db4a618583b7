-- Records: a block with a digest of its place and of its bytes.
use Rattle.std.specs.Prelude.{◌≡◌, ℕ, List, ◌++◌, take, drop}
use Rattle.std.specs.Int.{w64, to_le_bytes}
use Rattle.sha2.specs.Sha256.{sha256}
use Rattle.fragments.specs.declared.records.Place.{Place}

-- what a digest has of the place: the set, the number of the fragment and that of the stripe
abbrev pub place_bytes : Place → List ℕ
place_bytes p = (p.set ++ to_le_bytes w64 p.fragment) ++ to_le_bytes w64 p.stripe

-- behind the w bytes of the block stands the digest of the place and of the block
abbrev pub IsRecord : Place → ℕ → List ℕ → Type 0
IsRecord p w bytes = drop w bytes ≡ sha256 (place_bytes p ++ take w bytes)
