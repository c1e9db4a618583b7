-- The slots of stripes with their changes.
use Rattle.std.proofs.Common.{◌≡◌, ℕ, ◌<◌, ◌≤◌, ltb, ◌&&◌, ◌||◌, ◌==◌, Bool, true, false, [], List, length, get_or, Option, None, Some, cond, refl, sym, ap, ap₂, ◌∙◌, arith, inl, inr}
use Rattle.std.specs.Prelude.{not, is_none}
use Rattle.std.specs.Option.{option_map}
use Rattle.std.proofs.lemmas.Bool.{cases_lt}
use Rattle.std.proofs.lemmas.Grind.{common_steps}
use Rattle.std.proofs.lemmas.List.{ext_get_or, get_or_past}
use Rattle.std.proofs.lemmas.List.FromFn.{length-map-range_with_len, get_or-map-range_with_len}
use Rattle.lrc_code.specs.declared.Code.{Code}
use Rattle.lrc_code.specs.declared.Code.TheVariants.{Wide, Small}
use Rattle.sealed.specs.Changes.{slot_with, patched, row_with, stripes_with}
use Rattle.sealed.specs.Layout.{stripe_size, stripe_of, fragment_of, place_of}
use Rattle.sealed.specs.Runs.{byte_in}
use Rattle.sealed.specs.Stripes.{Stripes, fragment_at}
use Rattle.sealed.proofs.Changing.{off_slot, off_row}
use Rattle.sealed.proofs.Counting.{few_data}
use Rattle.sealed.proofs.Places.{fragment_inside}

-- ---- one stripe
module _ (lost : ℕ → Bool) (patch : ℕ → Option (List ℕ)) (row : List (Option (List ℕ))) where
  row_count : length (row_with lost patch row) ≡ 16
  row_count = length-map-range_with_len (λ f. slot_with (lost f) (patch f) (get_or row f None)) 0 16

  row_slot : (f : ℕ) → f < 16 → get_or (row_with lost patch row) f None ≡ slot_with (lost f) (patch f) (get_or row f None)
  row_slot f l = get_or-map-range_with_len (λ f. slot_with (lost f) (patch f) (get_or row f None)) 0 16 f f None l (omega arith)

  row_past : (f : ℕ) → 16 ≤ f → get_or (row_with lost patch row) f None ≡ None
  row_past f past = get_or_past (row_with lost patch row) f None (omega (arith, row_count))

row_alike : (a b : ℕ → Bool) (p q : ℕ → Option (List ℕ)) (row : List (Option (List ℕ))) → ((f : ℕ) → a f ≡ b f) → ((f : ℕ) → p f ≡ q f) → row_with a p row ≡ row_with b q row
row_alike a b p q row lost patch =
    ext_get_or None (row_with a p row) (row_with b q row) (row_count a p row ∙ sym (row_count b q row))
    (λ f l. let low : f < 16 = (let e = row_count a p row in omega arith) in
    row_slot a p row f low
    ∙ ap₂ (λ (x : Bool) (y : Option (List ℕ)). slot_with x y (get_or row f None)) (lost f) (patch f)
    ∙ sym (row_slot b q row f low))

row_whole : (a : ℕ → Bool) (p : ℕ → Option (List ℕ)) (row : List (Option (List ℕ))) → length row ≡ 16 → ((f : ℕ) → a f ≡ false) → ((f : ℕ) → p f ≡ None) → row_with a p row ≡ row
row_whole a p row long lost patch =
    ext_get_or None (row_with a p row) row (row_count a p row ∙ sym long)
    (λ f l. let low : f < 16 = (let e = row_count a p row in omega arith) in
    row_slot a p row f low ∙ ap₂ (λ (x : Bool) (y : Option (List ℕ)). slot_with x y (get_or row f None)) (lost f) (patch f))

-- ---- all stripes
module _ (lost : ℕ → ℕ → Bool) (patch : ℕ → ℕ → Option (List ℕ)) (stripes : Stripes) where
  pub changed_count : length (stripes_with lost patch stripes) ≡ length stripes
  unfolding stripes_with
  changed_count = length-map-range_with_len (λ j. row_with (lost j) (patch j) (get_or stripes j [])) 0 (length stripes)

  changed_row : (j : ℕ) → j < length stripes → get_or (stripes_with lost patch stripes) j [] ≡ row_with (lost j) (patch j) (get_or stripes j [])
  unfolding stripes_with
  changed_row j l = get_or-map-range_with_len (λ j. row_with (lost j) (patch j) (get_or stripes j [])) 0 (length stripes) j j [] l (omega arith)

  pub changed_slot : (j f : ℕ) → j < length stripes → f < 16 → fragment_at (stripes_with lost patch stripes) j f ≡ slot_with (lost j f) (patch j f) (fragment_at stripes j f)
  changed_slot j f l low =
      ap (λ (row : List (Option (List ℕ))). get_or row f None) (changed_row j l) ∙ row_slot (lost j) (patch j) (get_or stripes j []) f low

  past_slots : (j f : ℕ) → j < length stripes → 16 ≤ f → fragment_at (stripes_with lost patch stripes) j f ≡ None
  past_slots j f l past = ap (λ (row : List (Option (List ℕ))). get_or row f None) (changed_row j l) ∙ row_past (lost j) (patch j) (get_or stripes j []) f past

  past_rows : (j f : ℕ) → length stripes ≤ j → fragment_at (stripes_with lost patch stripes) j f ≡ None
  past_rows j f past = ap (λ (row : List (Option (List ℕ))). get_or row f None) (get_or_past (stripes_with lost patch stripes) j [] (omega (arith, changed_count)))

past_all : (f : ℕ) (x : Bool) → 16 ≤ f → (ltb f 16 && x) ≡ false
past_all f x past = grind (arith, common_steps)

pub whole_slots : (a : ℕ → ℕ → Bool) (p : ℕ → ℕ → Option (List ℕ)) (stripes : Stripes) (j : ℕ) → j < length stripes → ((f : ℕ) → a j f ≡ false) → ((f : ℕ) → p j f ≡ None)
    → (f : ℕ) → (ltb f 16 && is_none (fragment_at (stripes_with a p stripes) j f)) ≡ (ltb f 16 && is_none (fragment_at stripes j f))
whole_slots a p stripes j l lost patch f = elim (cases_lt f 16) [
  | inl low ↦ ap (λ o. ltb f 16 && is_none o)
      (changed_slot a p stripes j f l low ∙ ap₂ (λ (x : Bool) (y : Option (List ℕ)). slot_with x y (fragment_at stripes j f)) (lost f) (patch f))
  | inr past ↦ past_all f (is_none (fragment_at (stripes_with a p stripes) j f)) past ∙ sym (past_all f (is_none (fragment_at stripes j f)) past)
]

pub changed_alike : (a b : ℕ → ℕ → Bool) (p q : ℕ → ℕ → Option (List ℕ)) (stripes : Stripes) → ((j f : ℕ) → a j f ≡ b j f) → ((j f : ℕ) → p j f ≡ q j f)
    → stripes_with a p stripes ≡ stripes_with b q stripes
changed_alike a b p q stripes lost patch =
    ext_get_or [] (stripes_with a p stripes) (stripes_with b q stripes) (changed_count a p stripes ∙ sym (changed_count b q stripes))
    (λ j l. let inside : j < length stripes = (let e = changed_count a p stripes in omega arith) in
    changed_row a p stripes j inside ∙ row_alike (a j) (b j) (p j) (q j) (get_or stripes j []) (lost j) (patch j) ∙ sym (changed_row b q stripes j inside))

pub changed_none : (a : ℕ → ℕ → Bool) (p : ℕ → ℕ → Option (List ℕ)) (stripes : Stripes) → ((j : ℕ) → j < length stripes → length (get_or stripes j []) ≡ 16)
    → ((j f : ℕ) → a j f ≡ false) → ((j f : ℕ) → p j f ≡ None) → stripes_with a p stripes ≡ stripes
changed_none a p stripes sixteen lost patch =
    ext_get_or [] (stripes_with a p stripes) stripes (changed_count a p stripes)
    (λ j l. let inside : j < length stripes = (let e = changed_count a p stripes in omega arith) in
    changed_row a p stripes j inside ∙ row_whole (a j) (p j) (get_or stripes j []) (sixteen j inside) (lost j) (patch j))

-- ---- one slot changes
changed_by : (a b : ℕ → ℕ → Bool) (p q : ℕ → ℕ → Option (List ℕ)) (new old : Stripes) (j f : ℕ) (x : Option (List ℕ)) → length new ≡ length old → j < length old → f < 16
    → ((i g : ℕ) → slot_with (a i g) (p i g) (fragment_at new i g) ≡ cond ((i == j) && (g == f)) x (slot_with (b i g) (q i g) (fragment_at old i g)))
    → (i g : ℕ) → fragment_at (stripes_with a p new) i g ≡ cond ((i == j) && (g == f)) x (fragment_at (stripes_with b q old) i g)
changed_by a b p q new old j f x count below low slots i g = elim (cases_lt i (length old)) [
  | inl l ↦
      let inside : i < length new = omega arith in
      elim (cases_lt g 16) [
        | inl few ↦ changed_slot a p new i g inside few ∙ slots i g ∙ ap (cond ((i == j) && (g == f)) x) (sym (changed_slot b q old i g l few))
        | inr past ↦
            past_slots a p new i g inside past ∙ sym (past_slots b q old i g l past)
            ∙ sym (ap (λ (o : Bool). cond o x (fragment_at (stripes_with b q old) i g)) (off_slot i j g f (λ e. let no : f < f = omega arith in omega arith)))
      ]
  | inr past ↦
      past_rows a p new i g (omega arith) ∙ sym (past_rows b q old i g past)
      ∙ sym (ap (λ (o : Bool). cond o x (fragment_at (stripes_with b q old) i g)) (off_row i j g f (λ e. let no : j < j = omega arith in omega arith)))
]

lost_slot : (here l : Bool) (p x : Option (List ℕ)) → slot_with (here || l) p x ≡ cond here None (slot_with l p x)
lost_slot true l p x = refl
lost_slot false l p x = refl

patched_slot : (here l : Bool) (p x : Option (List ℕ)) (bytes : List ℕ) → slot_with (not here && l) (cond here (Some bytes) p) x ≡ cond here (Some bytes) (slot_with l p x)
patched_slot true l p x bytes = refl
patched_slot false l p x bytes = refl

written_slot : (here l : Bool) (p x : Option (List ℕ)) (bytes : List ℕ) → (here ≡ true → p ≡ None) → slot_with (not here && l) p (cond here (Some bytes) x) ≡ cond here (Some bytes) (slot_with l p x)
written_slot true l p x bytes none = ap (λ o. patched o (Some bytes)) (none refl)
written_slot false l p x bytes none = refl

first_is : (i j g f : ℕ) → ((i == j) && (g == f)) ≡ true → i ≡ j
first_is i j g f e = grind (arith, common_steps)

second_is : (i j g f : ℕ) → ((i == j) && (g == f)) ≡ true → g ≡ f
second_is i j g f e = grind (arith, common_steps)

module _ (a b : ℕ → ℕ → Bool) (p q : ℕ → ℕ → Option (List ℕ)) (new old : Stripes) (j f : ℕ) (below : j < length old) (low : f < 16) where
  -- it is lost
  pub changed_lost : ((i g : ℕ) → a i g ≡ (((i == j) && (g == f)) || b i g)) → ((i g : ℕ) → p i g ≡ q i g)
      → (i g : ℕ) → fragment_at (stripes_with a p old) i g ≡ cond ((i == j) && (g == f)) None (fragment_at (stripes_with b q old) i g)
  changed_lost more same =
      changed_by a b p q old old j f None refl below low
      (λ i g.
      ap₂ (λ (x : Bool) (y : Option (List ℕ)). slot_with x y (fragment_at old i g)) (more i g) (same i g)
      ∙ lost_slot ((i == j) && (g == f)) (b i g) (q i g) (fragment_at old i g))

  -- it has a patch
  pub changed_patched : (bytes : List ℕ) → ((i g : ℕ) → a i g ≡ (not ((i == j) && (g == f)) && b i g)) → ((i g : ℕ) → p i g ≡ cond ((i == j) && (g == f)) (Some bytes) (q i g))
      → (i g : ℕ) → fragment_at (stripes_with a p old) i g ≡ cond ((i == j) && (g == f)) (Some bytes) (fragment_at (stripes_with b q old) i g)
  changed_patched bytes less set =
      changed_by a b p q old old j f (Some bytes) refl below low
      (λ i g.
      ap₂ (λ (x : Bool) (y : Option (List ℕ)). slot_with x y (fragment_at old i g)) (less i g) (set i g)
      ∙ patched_slot ((i == j) && (g == f)) (b i g) (q i g) (fragment_at old i g) bytes)

  -- it is written
  pub changed_written : (bytes : List ℕ) → length new ≡ length old → q j f ≡ None → ((i g : ℕ) → a i g ≡ (not ((i == j) && (g == f)) && b i g)) → ((i g : ℕ) → p i g ≡ q i g)
      → ((i g : ℕ) → fragment_at new i g ≡ cond ((i == j) && (g == f)) (Some bytes) (fragment_at old i g))
      → (i g : ℕ) → fragment_at (stripes_with a p new) i g ≡ cond ((i == j) && (g == f)) (Some bytes) (fragment_at (stripes_with b q old) i g)
  changed_written bytes count none less same written =
      changed_by a b p q new old j f (Some bytes) count below low
      (λ i g.
      ap₂ (λ (x : Bool) (y : Option (List ℕ)). slot_with x y (fragment_at new i g)) (less i g) (same i g)
      ∙ ap (slot_with (not ((i == j) && (g == f)) && b i g) (q i g)) (written i g)
      ∙ written_slot ((i == j) && (g == f)) (b i g) (q i g) (fragment_at old i g) bytes
      (λ e. ap₂ q (first_is i j g f e) (second_is i j g f e) ∙ none))

-- ---- a byte of a stripe with no changes
some_width : (code : Code) (w : ℕ) → 1 ≤ stripe_size code w → 1 ≤ w
some_width Wide w some = omega arith
some_width Small w some = omega arith

pub changed_byte : (a : ℕ → ℕ → Bool) (p : ℕ → ℕ → Option (List ℕ)) (stripes : Stripes) (code : Code) (w k : ℕ) → 1 ≤ stripe_size code w → stripe_of code w k < length stripes
    → a (stripe_of code w k) (fragment_of code w k) ≡ false → p (stripe_of code w k) (fragment_of code w k) ≡ None
    → byte_in code w (stripes_with a p stripes) k ≡ byte_in code w stripes k
changed_byte a p stripes code w k some inside lost patch =
    let low : fragment_of code w k < 16 = (let e = fragment_inside code w (some_width code w some) k in let few = few_data code in omega arith) in
    ap (option_map (λ x. get_or x (place_of w k) 0))
    (changed_slot a p stripes (stripe_of code w k) (fragment_of code w k) inside low
    ∙ ap₂ (λ (x : Bool) (y : Option (List ℕ)). slot_with x y (fragment_at stripes (stripe_of code w k) (fragment_of code w k))) lost patch)
