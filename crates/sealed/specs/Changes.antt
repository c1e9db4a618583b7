-- Stripes of which some fragments are lost, and others have a patch: bytes that stand in the place
-- of those that were sealed.
use Rattle.std.specs.Prelude.{ℕ, ◌==◌, Bool, List, [], Option, None, Some, map, length, slice_index_or, if◌then◌else◌}
use Rattle.std.specs.List.{range_with_len}
use Rattle.std.specs.Option.{option_map}
use Rattle.lrc_code.specs.Code.{is_lost}
use Rattle.sealed.specs.declared.changes.Changes.{Changes}
use Rattle.sealed.specs.declared.changes.Changes.TheVariants.{First, Each}
use Rattle.sealed.specs.declared.table.ChangeTable.{ChangeTable}
use Rattle.sealed.specs.Stripes.{Stripes}

-- the patch of the fragment f, if a stripe has these
abbrev pub slot_in : Option (List (Option (List ℕ))) → ℕ → Option (List ℕ)
slot_in None f = None
slot_in (Some slots) f = slice_index_or slots f None

-- the fragment f of stripe j is lost in a table, and its patch there
abbrev pub table_lost : ChangeTable → ℕ → ℕ → Bool
table_lost table j f = is_lost (slice_index_or table.lost.items j 0) f

abbrev pub table_patch : ChangeTable → ℕ → ℕ → Option (List ℕ)
table_patch table j f = slot_in (option_map (λ a. a.value.fragments) (slice_index_or table.patches.items j None)) f

-- the same in any changes
abbrev pub lost_at : Changes → ℕ → ℕ → Bool
lost_at (First set) j f = is_lost (if j == 0 then set else 0) f
lost_at (Each table) j f = table_lost table.value j f

abbrev pub patch_at : Changes → ℕ → ℕ → Option (List ℕ)
patch_at (First set) j f = None
patch_at (Each table) j f = table_patch table.value j f

-- what a slot has with its changes
abbrev pub patched : Option (List ℕ) → Option (List ℕ) → Option (List ℕ)
patched None slot = slot
patched (Some bytes) slot = Some bytes

abbrev pub slot_with : Bool → Option (List ℕ) → Option (List ℕ) → Option (List ℕ)
slot_with lost patch slot = if lost then None else patched patch slot

-- the sixteen slots of a stripe
abbrev pub row_with : (ℕ → Bool) → (ℕ → Option (List ℕ)) → List (Option (List ℕ)) → List (Option (List ℕ))
row_with lost patch row = map (λ f. slot_with (lost f) (patch f) (slice_index_or row f None)) (range_with_len 0 16)

-- the slots of all stripes
unfoldable pub stripes_with : (ℕ → ℕ → Bool) → (ℕ → ℕ → Option (List ℕ)) → Stripes → Stripes
stripes_with lost patch stripes = map (λ j. row_with (lost j) (patch j) (slice_index_or stripes j [])) (range_with_len 0 (length stripes))
