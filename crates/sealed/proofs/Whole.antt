-- The result of sealing: stripes without lost fragments.
use Rattle.std.proofs.Common.{◌≡◌, ℕ, zero, suc, ◌+◌, ◌-◌, ◌*◌, ◌/◌, ◌%◌, ◌<◌, ◌≤◌, ◌++◌, ◌∷◌, [], List, length, get_or, map, take, drop, None, Some, Bor, cond, sym, ap, ap₂, ◌∙◌, subst, arith, inl, inr}
use Rattle.std.specs.Prelude.{All, slice_index, slice_index_or, slice_range}
use Rattle.std.specs.FinSet as set
use Rattle.std.proofs.lemmas.Bool.{cases_lt}
use Rattle.std.proofs.lemmas.Nat.{div-mul-add}
use Rattle.std.proofs.lemmas.Grind.{common_steps}
use Rattle.std.proofs.lemmas.List.{get_or_append_left, get_or-append_right, get_or-map, get_or-take, length-map, length-take-le, length-append, get_or_default}
use Rattle.std.proofs.lemmas.List.FromFn.{length-map-range_with_len, fill_by_all}
use Rattle.lrc_code.specs.declared.Code.{Code}
use Rattle.lrc_code.specs.Code.{data_count, fragment_count}
use Rattle.lrc_code.specs.Column.{column}
use Rattle.lrc_code.specs.Stripe.{IsStripe, list_at, quarters}
use Rattle.lrc_code.proofs.Columns.{column_data}
use Rattle.lrc_code.proofs.Parities.{quarters_joined}
use Rattle.sealed.specs.Layout.{stripe_size}
use Rattle.sealed.specs.Stripes.{Stripes, fragment_at}
use Rattle.sealed.specs.Packed.{held_by, parities_by, part_of, packed, AreParitiesOf, ArePackedOf, AreWhole, IsPadded}
use Rattle.sealed.specs.Blob.{data_at, fragment, nothing, lost_in, pair_cmp}
use Rattle.sealed.proofs.Fragments.{byte_or_zero, fragments_are, fragments_only}
use Rattle.sealed.proofs.Counting.{few_data, parity_count}
use Rattle.sealed.proofs.Packing.{slice_inside, part_data, part_parity, part_none, part_ends, packed_at, packed_count}
use Rattle.sealed.proofs.Places.{rest_of}
use Rattle.sealed.proofs.Ranges.{length_of_range, item_of_range, range_before, range_after}

some_item : {X : Type 0} (xs : List X) → 0 < length xs → X
some_item [] l = absurd (omega arith)
some_item (x ∷ xs) l = x

-- ---- one stripe
-- the stripe whose data fragments are the slices of what it holds
slices_are : (code : Code) (w : ℕ) (held : List ℕ) (s : ℕ → List ℕ) → IsStripe code w s → length held ≡ stripe_size code w
    → ((f : ℕ) → f < data_count code → s f ≡ slice_range held (w * f) (w * f + w)) → (f : ℕ) → f < fragment_count code → s f ≡ fragment code w held 0 f
slices_are code w held s is long same =
    fragments_only code w held 0 s (record {
      stripe = is;
      holds = λ f p l below.
          (let ends : w * f + w ≤ length held = (let inside = slice_inside code w f l in omega arith) in
          ap (λ x. slice_index x p) (same f l) ∙ item_of_range held (w * f) (w * f + w) p ends (omega arith)
          ∙ ap (λ i. get_or held i 0) (let e : w * f + p ≡ stripe_size code w * 0 + w * f + p = omega arith in e));
    })

module _ (code : Code) (d w : ℕ) (count : d ≡ data_count code) (held : List ℕ) (long : length held ≡ stripe_size code w)
    (slices : List (Bor (List ℕ))) (twelve : length slices ≡ 12)
    (sliced : (f : ℕ) (other : Bor (List ℕ)) → f < data_count code → (slice_index_or slices f other).now ≡ slice_range held (w * f) (w * f + w)) where
  abbrev pub all : List (List ℕ) → List (List ℕ)
  all parities = map (λ s. s.now) (take d slices) ++ parities

  taken : length (take d slices) ≡ d
  taken = length-take-le d slices (let few = few_data code in omega arith)

  first : (parities : List (List ℕ)) (f : ℕ) → f < d → list_at (all parities) f ≡ slice_range held (w * f) (w * f + w)
  first parities f l =
      let some : Bor (List ℕ) = some_item slices (omega arith) in
      let inside : f < length (take d slices) = omega (arith, taken) in
      get_or_append_left (map (λ s. s.now) (take d slices)) parities [] f (let e = length-map (take d slices) (λ (s : Bor (List ℕ)). s.now) in omega arith)
      ∙ get_or-map (λ (s : Bor (List ℕ)). s.now) (take d slices) f some [] inside
      ∙ ap (λ (s : Bor (List ℕ)). s.now) (get_or-take d slices f some l)
      ∙ sliced f some (omega arith)

  second : (parities : List (List ℕ)) (k : ℕ) → list_at (all parities) (d + k) ≡ list_at parities k
  second parities k =
      get_or-append_right (map (λ s. s.now) (take d slices)) parities d (d + k) [] (length-map (take d slices) (λ s. s.now) ∙ taken) (omega arith)
      ∙ ap (λ i. get_or parities i []) (let e : d + k - d ≡ k = omega arith in e)

  -- the parities that make a stripe with the slices are those of the whole stripe
  pub made_parities : (parities : List (List ℕ)) → IsStripe code w (list_at (all parities)) → (k : ℕ) → k < 4 → list_at parities k ≡ fragment code w held 0 (data_count code + k)
  made_parities parities is k l =
      sym (second parities k)
      ∙ slices_are code w held (list_at (all parities)) is long (λ g h. first parities g (omega arith)) (d + k) (let four = parity_count code in omega arith)
      ∙ ap (λ n. fragment code w held 0 (n + k)) count

-- ---- the parities, one after the other
pub quarter_at : (w : ℕ) (bytes : List ℕ) (k : ℕ) → k < 4 → list_at (quarters w bytes) k ≡ slice_range bytes (w * k) (w * k + w)
quarter_at w bytes zero l = ap₂ (slice_range bytes) (let e : 0 ≡ w * 0 = omega arith in e) (let e : w ≡ w * 0 + w = omega arith in e)
quarter_at w bytes (suc zero) l = ap₂ (slice_range bytes) (let e : w ≡ w * 1 = omega arith in e) (let e : 2 * w ≡ w * 1 + w = omega arith in e)
quarter_at w bytes (suc (suc zero)) l = ap₂ (slice_range bytes) (let e : 2 * w ≡ w * 2 = omega arith in e) (let e : 3 * w ≡ w * 2 + w = omega arith in e)
quarter_at w bytes (suc (suc (suc zero))) l = ap₂ (slice_range bytes) (let e : 3 * w ≡ w * 3 = omega arith in e) (let e : 4 * w ≡ w * 3 + w = omega arith in e)
quarter_at w bytes (suc (suc (suc (suc k)))) l = absurd (omega arith)

-- and four lists of w bytes that are written so
pub parities_written : (code : Code) (w : ℕ) (held a b c d : List ℕ) → length a ≡ w → length b ≡ w → length c ≡ w → length d ≡ w
    → ((k : ℕ) → k < 4 → list_at (a ∷ b ∷ c ∷ d ∷ []) k ≡ fragment code w held 0 (data_count code + k)) → AreParitiesOf code w held (a ++ (b ++ (c ++ d)))
parities_written code w held a b c d la lb lc ld is =
    let joined : List ℕ = a ++ (b ++ (c ++ d)) in
    record {
      long = omega (arith, length-append a (b ++ (c ++ d)), length-append b (c ++ d), length-append c d);
      each = λ k l. sym (quarter_at w joined k l) ∙ ap (λ (parts : List (List ℕ)). list_at parts k) (quarters_joined w a b c d la lb lc ld) ∙ is k l;
    }

-- ---- the slots of a stripe that is whole
data_slice : (code : Code) (w : ℕ) (held : List ℕ) (f : ℕ) → length held ≡ stripe_size code w → f < data_count code
    → slice_range held (w * f) (w * f + w) ≡ fragment code w held 0 f
data_slice code w held f long l =
    let ends : w * f + w ≤ length held = (let inside = slice_inside code w f l in omega arith) in
    fill_by_all (λ p. column code (data_at code w held 0 p) f) (slice_range held (w * f) (w * f + w)) w 0 (length_of_range held (w * f) (w * f + w) ends ∙ (let e : w * f + w - w * f ≡ w = omega arith in e))
    (λ p below.
    item_of_range held (w * f) (w * f + w) p ends (omega arith)
    ∙ ap (λ i. get_or held i 0) (let e : w * f + p ≡ stripe_size code w * 0 + w * f + p = omega arith in e)
    ∙ sym (column_data code (data_at code w held 0 p) f l))

whole_part : (code : Code) (w : ℕ) (held parities : List ℕ) (f : ℕ) → length held ≡ stripe_size code w → AreParitiesOf code w held parities → f < fragment_count code
    → part_of code w held parities f ≡ Some (fragment code w held 0 f)
whole_part code w held parities f long are l =
    elim (cases_lt f (data_count code)) [
      | inl below ↦ part_data code w held parities f below ∙ ap (λ x. Some x) (data_slice code w held f long below)
      | inr past ↦
          let k = f - data_count code in
          let here : data_count code + k ≡ f = omega arith in
          let four : k < 4 = (let few = parity_count code in omega arith) in
          part_parity code w held parities f k (sym here) four
          ∙ ap (λ x. Some x) (are.each k four ∙ ap (fragment code w held 0) here)
    ]

-- ---- all stripes
-- the bytes that a stripe holds are a blob of one stripe, which is the same
pub same_stripe : (code : Code) (w j : ℕ) (held b : List ℕ) → All (λ x. x < 256) b → length held ≡ stripe_size code w
    → ((i : ℕ) → i < stripe_size code w → slice_index_or held i 0 ≡ slice_index_or b (stripe_size code w * j + i) 0)
    → (f : ℕ) → f < fragment_count code → fragment code w held 0 f ≡ fragment code w b j f
same_stripe code w j held b bytes long same =
    let own = fragments_are code w held 0 (λ i d l. subst (λ x. x < 256) (sym (same i (omega arith)) ∙ get_or_default held i 0 d l) (byte_or_zero b (stripe_size code w * j + i) bytes)) in
    fragments_only code w b j (fragment code w held 0) (record {
      stripe = own.stripe;
      holds = λ f p l below.
          (let inside = slice_inside code w f l in
          own.holds f p l below
          ∙ ap (λ i. get_or held i 0) (let e : stripe_size code w * 0 + w * f + p ≡ w * f + p = omega arith in e)
          ∙ same (w * f + p) (omega arith)
          ∙ ap (λ i. get_or b i 0) (let e : stripe_size code w * j + (w * f + p) ≡ stripe_size code w * j + w * f + p = omega arith in e));
    })

-- if the blob is held with zeros after it
pub packed_whole : (code : Code) (w : ℕ) (b blob last parities : List ℕ) (count : ℕ) → All (λ x. x < 256) b → ArePackedOf code w b blob last parities count
    → AreWhole code w b count (packed code w blob last parities count)
packed_whole code w b blob last parities count fit are =
    let held : ℕ → List ℕ = held_by (stripe_size code w) blob last in
    record {
      counted = packed_count code w blob last parities count;
      present = λ j f l inside.
          packed_at code w blob last parities count j f l
          ∙ whole_part code w (held j) (parities_by w parities j) f (are.hold j l) (are.encoded j l) inside
          ∙ ap (λ x. Some x) (same_stripe code w j (held j) b fit (are.hold j l) (λ i h. are.same j i l h) f inside);
      others = λ j f l past. packed_at code w blob last parities count j f l ∙ part_none code w (held j) (parities_by w parities j) f past;
    }

-- ---- the last bytes, filled up
held_whole : (size : ℕ) (b last : List ℕ) (j : ℕ) → size * j + size ≤ length b → held_by size b last j ≡ slice_range b (size * j) (size * j + size)
held_whole size b last j h = grind (arith, common_steps)

held_last : (size : ℕ) (b last : List ℕ) (j : ℕ) → length b < size * j + size → held_by size b last j ≡ last
held_last size b last j h = grind (arith, common_steps)

rest_is : (size j n : ℕ) → size * j ≤ n → n < size * j + size → n % size ≡ n - size * j
rest_is size j n from below =
    let e : n ≡ j * size + (n - size * j) = omega arith in
    rest_of n size j (n - size * j) e (ap (λ k. k / size) e ∙ div-mul-add j size (n - size * j) (omega arith))

module _ (size : ℕ) (b last : List ℕ) (long : (length b % size ≡ 0 → ⊥) → length last ≡ size)
    (bytes : (length b % size ≡ 0 → ⊥) → (i : ℕ) → slice_index_or last i 0 ≡ slice_index_or b (length b - length b % size + i) 0) where
  some_rest : (j : ℕ) → size * j < length b → length b < size * j + size → length b % size ≡ 0 → ⊥
  some_rest j from below none = let rest = rest_is size j (length b) (omega arith) below in omega arith

  pub held_long : (j : ℕ) → size * j < length b → length (held_by size b last j) ≡ size
  held_long j from =
      elim (cases_lt (length b) (size * j + size)) [
        | inl below ↦ ap length (held_last size b last j below) ∙ long (some_rest j from below)
        | inr inside ↦
            ap length (held_whole size b last j inside) ∙ length_of_range b (size * j) (size * j + size) inside ∙ (let e : size * j + size - size * j ≡ size = omega arith in e)
      ]

  pub held_bytes : (j i : ℕ) → size * j < length b → i < size → slice_index_or (held_by size b last j) i 0 ≡ slice_index_or b (size * j + i) 0
  held_bytes j i from l =
      elim (cases_lt (length b) (size * j + size)) [
        | inl below ↦
            ap (λ (xs : List ℕ). get_or xs i 0) (held_last size b last j below) ∙ bytes (some_rest j from below) i
            ∙ ap (λ k. get_or b k 0) (let rest = rest_is size j (length b) (omega arith) below in let e : length b - length b % size + i ≡ size * j + i = omega arith in e)
        | inr inside ↦ ap (λ (xs : List ℕ). get_or xs i 0) (held_whole size b last j inside) ∙ item_of_range b (size * j) (size * j + size) i inside (omega arith)
      ]

-- ---- one stripe after the other
pub parities_kept : (w i j : ℕ) (parities four : List ℕ) → length parities ≡ 4 * w * j → i < j → parities_by w (parities ++ four) i ≡ parities_by w parities i
parities_kept w i j parities four long l =
    let ends : 4 * w * i + 4 * w ≤ 4 * w * j = part_ends (4 * w) i j l in
    range_before parities four (4 * w * i) (4 * w * i + 4 * w) (omega arith)

pub parities_here : (w j : ℕ) (parities four : List ℕ) → length parities ≡ 4 * w * j → length four ≡ 4 * w → parities_by w (parities ++ four) j ≡ four
parities_here w j parities four long four_long = range_after parities four (4 * w * j) (4 * w * j + 4 * w) long (omega arith)

-- those of one more stripe
pub parities_more : (code : Code) (w : ℕ) (held : ℕ → List ℕ) (parities four : List ℕ) (j : ℕ) → length parities ≡ 4 * w * j
    → ((i : ℕ) → i < j → AreParitiesOf code w (held i) (parities_by w parities i)) → AreParitiesOf code w (held j) four
    → (i : ℕ) → i < j + 1 → AreParitiesOf code w (held i) (parities_by w (parities ++ four) i)
parities_more code w held parities four j long old are i l =
    elim (cases_lt i j) [
      | inl before ↦ subst (AreParitiesOf code w (held i)) (sym (parities_kept w i j parities four long before)) (old i before)
      | inr last ↦
          (let at : j ≡ i = omega arith in
          subst (λ k. AreParitiesOf code w (held k) (parities_by w (parities ++ four) k)) at
          (subst (AreParitiesOf code w (held j)) (sym (parities_here w j parities four long are.long)) are))
    ]

held_kept : (size i j : ℕ) (blob more : List ℕ) → length blob ≡ size * j → i < j → held_by size (blob ++ more) [] i ≡ held_by size blob [] i
held_kept size i j blob more long l =
    let ends : size * i + size ≤ size * j = part_ends size i j l in
    held_whole size (blob ++ more) [] i (omega (arith, length-append blob more))
    ∙ range_before blob more (size * i) (size * i + size) (omega arith)
    ∙ sym (held_whole size blob [] i (omega arith))

held_here : (size j : ℕ) (blob more : List ℕ) → length blob ≡ size * j → length more ≡ size → held_by size (blob ++ more) [] j ≡ more
held_here size j blob more long more_long =
    held_whole size (blob ++ more) [] j (omega (arith, length-append blob more))
    ∙ range_after blob more (size * j) (size * j + size) long (omega arith)

-- one more stripe
pub packed_more : (code : Code) (w : ℕ) (b blob more parities four : List ℕ) (j : ℕ) → length blob ≡ stripe_size code w * j → length more ≡ stripe_size code w → length parities ≡ 4 * w * j
    → ((i : ℕ) → i < stripe_size code w → slice_index_or more i 0 ≡ slice_index_or b (stripe_size code w * j + i) 0)
    → AreParitiesOf code w more four → ArePackedOf code w b blob [] parities j → ArePackedOf code w b (blob ++ more) [] (parities ++ four) (j + 1)
packed_more code w b blob more parities four j long more_long parities_long same are old =
    let size : ℕ = stripe_size code w in
    let here : held_by size (blob ++ more) [] j ≡ more = held_here size j blob more long more_long in
    let kept : (i : ℕ) → i < j → held_by size (blob ++ more) [] i ≡ held_by size blob [] i = λ i l. held_kept size i j blob more long l in
    record {
      hold = λ i l. elim (cases_lt i j) [
        | inl before ↦ ap length (kept i before) ∙ old.hold i before
        | inr last ↦ (let at : j ≡ i = omega arith in subst (λ k. length (held_by size (blob ++ more) [] k) ≡ size) at (ap length here ∙ more_long))
      ];
      same = λ i n l h. elim (cases_lt i j) [
        | inl before ↦ ap (λ (xs : List ℕ). get_or xs n 0) (kept i before) ∙ old.same i n before h
        | inr last ↦
            (let at : j ≡ i = omega arith in
            subst (λ k. get_or (held_by size (blob ++ more) [] k) n 0 ≡ get_or b (size * k + n) 0) at (ap (λ (xs : List ℕ). get_or xs n 0) here ∙ same n h))
      ];
      encoded = parities_more code w (held_by size (blob ++ more) []) parities four j parities_long
          (λ i l. subst (λ h. AreParitiesOf code w h (parities_by w parities i)) (sym (kept i l)) (old.encoded i l))
          (subst (λ h. AreParitiesOf code w h four) (sym here) are);
    }

-- a single stripe, with its parities after it
pub joined_packed : (code : Code) (w : ℕ) (b joined : List ℕ) → IsPadded b (take (stripe_size code w) joined) → length (take (stripe_size code w) joined) ≡ stripe_size code w
    → AreParitiesOf code w (take (stripe_size code w) joined) (drop (stripe_size code w) joined)
    → ArePackedOf code w b (take (stripe_size code w) joined) [] (drop (stripe_size code w) joined) 1
joined_packed code w b joined padded long are =
    let size : ℕ = stripe_size code w in
    let none : ArePackedOf code w b [] [] [] 0 = record {
      hold = λ j l. absurd (omega arith);
      same = λ j i l h. absurd (omega arith);
      encoded = λ j l. absurd (omega arith);
    } in
    packed_more code w b [] (take size joined) [] (drop size joined) 0 (omega arith) long (omega arith)
    (λ i l. padded.same i ∙ ap (λ k. get_or b k 0) (let e : i ≡ size * 0 + i = omega arith in e)) are none

-- ---- the sealed value
none_is_no_some : (x : List ℕ) → None ≡ Some x → ⊥
none_is_no_some x e = cc

some_injective : (x y : List ℕ) → Some x ≡ Some y → x ≡ y
some_injective x y e = cc

stripe_of_fragment : (rows : Stripes) (j f : ℕ) (x : List ℕ) → fragment_at rows j f ≡ Some x → j < length rows
stripe_of_fragment [] j f x e = absurd (none_is_no_some x e)
stripe_of_fragment (row ∷ rows) zero f x e = omega arith
stripe_of_fragment (row ∷ rows) (suc j) f x e = let below : j < length rows = stripe_of_fragment rows j f x e in omega arith

module _ (stripes : Stripes) (code : Code) (w : ℕ) (b : List ℕ) (n : ℕ) (whole : AreWhole code w b n stripes) where
  pub sized : (j f : ℕ) (x : List ℕ) → fragment_at stripes j f ≡ Some x → (f < fragment_count code) × (length x ≡ w)
  sized j f x e =
      let below : j < n = (let l = stripe_of_fragment stripes j f x e in let count = whole.counted in omega arith) in
      elim (cases_lt f (fragment_count code)) [
        | inl inside ↦ (
          inside,
          ap length (sym (some_injective (fragment code w b j f) x (sym (whole.present j f below inside) ∙ e)))
              ∙ length-map-range_with_len (λ p. column code (data_at code w b j p) f) 0 w,
        )
        | inr past ↦ absurd (none_is_no_some x (sym (whole.others j f below past) ∙ e))
      ]

  pub nothing_lost : (j f : ℕ) → j < n → f < fragment_count code → fragment_at stripes j f ≡ cond (lost_in nothing j f) None (Some (fragment code w b j f))
  nothing_lost j f below inside =
      whole.present j f below inside ∙ sym (ap (λ lost. cond lost None (Some (fragment code w b j f))) (set.contains-empty pair_cmp (j, f)))
