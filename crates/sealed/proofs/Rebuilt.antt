-- The sum of a recipe over the remaining fragments of a stripe.
use Rattle.std.proofs.Common.{◌≡◌, ℕ, ◌+◌, ◌-◌, ◌<◌, ◌≤◌, Bool, true, false, List, Option, None, Some, Bor, cond, length, map, get_or, sym, ap, ◌∙◌, subst, arith}
use Rattle.std.specs.Prelude.{EachIndex, IfSome, is_none, slice_index, slice_range}
use Rattle.std.proofs.lemmas.Grind.{common_steps, same_number_lists}
use Rattle.std.proofs.lemmas.List.Edits.{get_or-between, length-between}
use Rattle.std.proofs.lemmas.List.Elements.{All-get_or}
use Rattle.std.proofs.lemmas.List.FromFn.{length-map-range_with_len}
use Rattle.lrc_code.specs.declared.recipes.Term.{Term}
use Rattle.lrc_code.specs.Code.{fragment_count}
use Rattle.lrc_code.specs.Column.{column}
use Rattle.lrc_code.specs.Recipe.{recipe_sum, IsTerm, IsRecipe}
use Rattle.lrc_code.proofs.CombineLemmas.{nothing, no_term, maps_same}
use Rattle.lrc_code.proofs.CombineLemmas.{fragment_at as term_at}
use Rattle.sealed.specs.declared.value.Sealed.{Sealed}
use Rattle.sealed.specs.Layout.{stripe_count}
use Rattle.sealed.specs.Stripes.{fragment_at}
use Rattle.sealed.specs.Blob.{Lost, lost_in, fragment, data_at}
use Rattle.sealed.specs.Sealed.{StandsFor, absent_in}
use Rattle.sealed.specs.Rebuilding.{IsPartOf, IsFragmentOf}
use Rattle.sealed.proofs.Fragments.{fragments_are}

there_by : (found : Option (List ℕ)) (gone : Bool) (y : List ℕ) (P : List ℕ → Type 0) → found ≡ cond gone None (Some y) → is_none found ≡ false → IfSome found P → P y
there_by None gone y P e here p = absurd (let clash : true ≡ false = here in cc)
there_by (Some x) true y P e here p = absurd (let clash : Some x ≡ None = e in cc)
there_by (Some x) false y P e here p = subst P (let same : Some x ≡ Some y = e in cc) p

-- a fragment that is present is that of each blob that the value represents
there : (s : Sealed) (j f : ℕ) (b : List ℕ) (lost : Lost) (P : List ℕ → Type 0) → StandsFor s b lost → j < stripe_count s.code s.width s.len → f < fragment_count s.code → absent_in s j f ≡ false
    → IfSome (fragment_at s.stripes j f) P → P (fragment s.code s.width b j f)
there s j f b lost P stands below inside here =
    there_by (fragment_at s.stripes j f) (lost_in lost j f) (fragment s.code s.width b j f) P (stands.fragments j f below inside) here

-- the list is from..to of what the value has of the fragment
abbrev pub IsSource : Sealed → ℕ → ℕ → ℕ → ℕ → Bor (List ℕ) → Type 0
IsSource s j f from to source = IfSome (fragment_at s.stripes j f) (λ x. source.now ≡ slice_range x from to)

-- the sum of a recipe over what its fragments have from..to is what f has there
pub part_by_recipe : (s : Sealed) (j f from to : ℕ) (terms : List Term) (sources : List (Bor (List ℕ))) (bytes : List ℕ) → j < stripe_count s.code s.width s.len → f < fragment_count s.code
    → from ≤ to → to ≤ s.width → IsRecipe s.code (absent_in s j) f terms → length sources ≡ length terms → ((i : ℕ) → i < length terms → IsSource s j (term_at terms i) from to (get_or sources i nothing))
    → length bytes ≡ to - from → EachIndex bytes (λ k. (c : ℕ → ℕ) → map (λ x. slice_index x.now k) sources ≡ map (λ term. c term.fragment) terms → slice_index bytes k ≡ recipe_sum terms c)
    → IsPartOf s j f from to bytes
part_by_recipe s j f from to terms sources bytes below inside order within recipe count each long sums b lost stands =
    let own : ℕ → List ℕ = fragment s.code s.width b j in
    let width : (g : ℕ) → length (own g) ≡ s.width = λ g. length-map-range_with_len (λ p. column s.code (data_at s.code s.width b j p) g) 0 s.width in
    same_number_lists bytes (slice_range (own f) from to)
    (long ∙ sym (length-between (own f) from to (omega (arith, width f))))
    (λ k l.
    let place : from + k < to = omega arith in
    let columns : ℕ → ℕ = λ g. slice_index (own g) (from + k) in
    sums k l columns
    (maps_same (λ x. slice_index x.now k) (λ (term : Term). columns term.fragment) sources terms nothing no_term count
    (λ i m.
    let is : IsTerm s.code (absent_in s j) (get_or terms i no_term) = All-get_or (IsTerm s.code (absent_in s j)) terms i no_term m recipe.each in
    ap (λ xs. slice_index xs k) (there s j (term_at terms i) b lost (λ x. (get_or sources i nothing).now ≡ slice_range x from to) stands below is.0 is.1 (each i m))
    ∙ get_or-between (own (term_at terms i)) from to k 0 place))
    ∙ sym (recipe.gives columns ((fragments_are s.code s.width b j stands.bytes).stripe.columns (from + k) (omega arith)))
    ∙ sym (get_or-between (own f) from to k 0 place))

whole_range : (xs : List ℕ) (n : ℕ) → length xs ≡ n → slice_range xs 0 n ≡ xs
whole_range xs n e = grind (arith, common_steps, e)

-- all of a fragment, as many bytes as the width
pub whole_part : (s : Sealed) (j f to : ℕ) (bytes : List ℕ) → to ≡ s.width → IsPartOf s j f 0 to bytes → IsFragmentOf s j f bytes
whole_part s j f to bytes wide part b lost stands =
    part b lost stands ∙ whole_range (fragment s.code s.width b j f) to (length-map-range_with_len (λ p. column s.code (data_at s.code s.width b j p) f) 0 s.width ∙ sym wide)
