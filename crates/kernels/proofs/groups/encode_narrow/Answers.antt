use Rattle.std.proofs.Common.{◌≡◌, ◌+◌, ◌<◌, ℕ, List, [], ◌∷◌, length, map, get_or, refl, sym, subst, ◌∙◌, arith}
use Rattle.kernels.specs.Lists.{list_at, bytes_at}
use Rattle.kernels.specs.declared.lanes.TheConstants.{LANES}
use Rattle.kernels.proofs.GroupLemmas.{at_below, parities_same, long_at, taken}
use Rattle.kernels.proofs.groups.encode_narrow.Goals as goal

pub returns : goal.returns
returns c k h =
    let made = c.encode_block.new in
    let width : ℕ = length c.args.first.now in
    let below : k < width = omega (arith, h) in
    let reach : (i : ℕ) → i < 12 → k < length (list_at (map (λ s. s.now) c.args.sources.now) i) =
    λ i l. subst (λ n. k < n) (sym (long_at c.args.sources.now width i c.requires.same (omega (arith, l, c.requires.count)))) below in
    let narrow : k < LANES = omega (arith, c.requires.narrow_first, below) in
    let blocks : List (List ℕ) = c.all_padded-blocks.result in
    let lists : List (List ℕ) = get_or blocks 0 [] ∷ get_or blocks 1 [] ∷ get_or blocks 2 [] ∷ get_or blocks 3 [] ∷ get_or blocks 4 [] ∷ get_or blocks 5 [] ∷ get_or blocks 6 [] ∷ get_or blocks 7 [] ∷ get_or blocks 8 [] ∷ get_or blocks 9 [] ∷ get_or blocks 10 [] ∷ get_or blocks 11 [] ∷ [] in
    parities_same (map (λ s. s.now) c.args.sources.now) lists made.first made.second made.third made.fourth _ _ _ _ (0 + k) k (c.encode_block.ensures.parities k narrow) (omega arith)
    (λ i l. at_below (λ i. bytes_at lists k i ≡ bytes_at blocks k i) 12 ((((((((((((tt, refl), refl), refl), refl), refl), refl), refl), refl), refl), refl), refl), refl) i l ∙ c.all_padded-blocks.ensures.bytes i k l (reach i l))
    (taken made.first _ _ k c.copy_from_slice.ensures.after below)
    (taken made.second _ _ k c.copy_from_slice-2.ensures.after (omega (arith, below, c.requires.same_second)))
    (taken made.third _ _ k c.copy_from_slice-3.ensures.after (omega (arith, below, c.requires.same_third)))
    (taken made.fourth _ _ k c.copy_from_slice-4.ensures.after (omega (arith, below, c.requires.same_fourth)))
