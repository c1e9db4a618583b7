use Rattle.std.proofs.Common.{◌≡◌, ◌+◌, ℕ, ◌<◌, List, [], ◌∷◌, bit_xor, get_or, map, ap, ◌∙◌, subst}
use Rattle.kernels.specs.Lists.{bytes_at}
use Rattle.kernels.proofs.GroupLemmas.{each_of_six, read_six, bit_0_same, bit_1_same, bit_2_same, six_same}
use Rattle.kernels.specs.declared.lanes.TheConstants.{LANES}
use Rattle.kernels.proofs.groups.sums_of.Goals.{After-sum_3-2}
use Rattle.kernels.proofs.groups.sums_of.Goals as goal

-- the bytes that were loaded from the six lists
abbrev loaded : After-sum_3-2 → ℕ → List ℕ
loaded c k = get_or c.load_from-x0.result k 0 ∷ get_or c.load_from-x1.result k 0 ∷ get_or c.load_from-x2.result k 0 ∷ get_or c.load_from-x3.result k 0 ∷ get_or c.load_from-x4.result k 0 ∷ get_or c.load_from-x5.result k 0 ∷ []

-- the bytes of the six lists
abbrev six : After-sum_3-2 → ℕ → ℕ → ℕ
six c k i = bytes_at (map (λ s. s.now) c.args.sources.now) (c.args.at + k) (c.args.first + i)

are_loaded : (c : After-sum_3-2) (k : ℕ) → k < LANES → (i : ℕ) → i < 6 → get_or (loaded c k) i 0 ≡ six c k i
are_loaded c k h =
    read_six (map (λ s. s.now) c.args.sources.now) c.args.first (c.args.at + k) _ _ _ _ _ _
    (c.load_from-x0.ensures.lanes k h) (c.load_from-x1.ensures.lanes k h) (c.load_from-x2.ensures.lanes k h)
    (c.load_from-x3.ensures.lanes k h) (c.load_from-x4.ensures.lanes k h) (c.load_from-x5.ensures.lanes k h)

pub returns-clause-bytes : goal.returns-clause-bytes
returns-clause-bytes c i k l h =
    subst (λ x. x < 256) (are_loaded c k h i l)
    (each_of_six (λ i. get_or (loaded c k) i 0 < 256) (c.load_from-x0.ensures.bytes k h) (c.load_from-x1.ensures.bytes k h) (c.load_from-x2.ensures.bytes k h)
    (c.load_from-x3.ensures.bytes k h) (c.load_from-x4.ensures.bytes k h) (c.load_from-x5.ensures.bytes k h) i l)

pub returns-clause-whole : goal.returns-clause-whole
returns-clause-whole c k h =
    let xs = loaded c k in
    c.sum_4.ensures k h ∙ ap (λ x. bit_xor (bit_xor (bit_xor x (get_or xs 1 0)) (get_or xs 3 0)) (get_or xs 5 0)) (c.sum_3-bit_0.ensures k h)
    ∙ six_same (λ i. get_or xs i 0) (six c k) (are_loaded c k h)

pub returns-clause-bit_0 : goal.returns-clause-bit_0
returns-clause-bit_0 c k h = c.sum_3-bit_0.ensures k h ∙ bit_0_same (λ i. get_or (loaded c k) i 0) (six c k) (are_loaded c k h)

pub returns-clause-bit_1 : goal.returns-clause-bit_1
returns-clause-bit_1 c k h = c.sum_3.ensures k h ∙ bit_1_same (λ i. get_or (loaded c k) i 0) (six c k) (are_loaded c k h)

pub returns-clause-bit_2 : goal.returns-clause-bit_2
returns-clause-bit_2 c k h = c.sum_3-2.ensures k h ∙ bit_2_same (λ i. get_or (loaded c k) i 0) (six c k) (are_loaded c k h)
