-- Targets that are made by their formulas.
use Rattle.std.proofs.Common.{◌≡◌, ℕ, ◌<◌, List, Option, Some, None, IfSome, Bor, get_or, bit_xor, sym, ap, ap₂, ◌∙◌, subst, arith, inl, inr}
use lib.Bits.{xor_assoc, xor_self, xor_zero_r}
use Rattle.gf256.specs.Field.{product}
use Rattle.gf256.proofs.Laws.{product-zero_left}
use Rattle.gf256.proofs.Linear.{product-xor_left}
use Rattle.kernels.specs.Lists.{xor_sum, combined}
use Rattle.kernels.proofs.Sums.{xor_sum_same, xor_sum-xor, xor_sum_zero}
use Rattle.syndromes.specs.declared.formulas.Formula.{Formula}
use Rattle.syndromes.specs.Syndromes.{wide_syndrome, column_at, sum_by, HasSums, HasRoom}
use Rattle.syndromes.specs.Formulas.{IsFormula, IsNoneOr, share_of, addend}
use Rattle.kernels.specs.declared.lanes.TheConstants.{LANES}

pub xor_back : (a b : ℕ) → bit_xor (bit_xor a b) b ≡ a
xor_back a b = xor_assoc a b b ∙ ap (bit_xor a) (xor_self b) ∙ xor_zero_r a

-- what a list that is added comes to
abbrev pub added : Option (List ℕ) → (ℕ → ℕ) → ℕ
added shares s = xor_sum 4 (λ e. product (share_of shares e) (s e))

added_is : (lists : List (Option (Bor (List ℕ)))) (shares : Option (List ℕ)) (n k : ℕ) (bytes : List ℕ) → k < n → HasSums lists shares n bytes
    → addend shares bytes k ≡ added shares (λ e. wide_syndrome e (column_at lists k))
added_is lists None n k bytes l sums = sym (xor_sum_zero 4 (λ e. product 0 (wide_syndrome e (column_at lists k))) (λ e m. product-zero_left (wide_syndrome e (column_at lists k))))
added_is lists (Some a) n k bytes l sums = sums k l

-- the factors give what the shares give, less what is added
factors_give : (f : Formula) (s : ℕ → ℕ) → IsFormula f → combined f.factors s ≡ bit_xor (bit_xor (bit_xor (sum_by f.shares s) (added f.first s)) (added f.second s)) (added f.third s)
factors_give f s is =
    let shares = λ (e : ℕ). get_or f.shares e 0 in
    let x = share_of f.first in
    let y = share_of f.second in
    let z = share_of f.third in
    ap (λ n. xor_sum n (λ e. product (get_or f.factors e 0) (s e))) is.four
    ∙ xor_sum_same 4 _ _ (λ e l. ap (λ w. product w (s e)) (is.factors e l)
    ∙ product-xor_left (bit_xor (bit_xor (shares e) (x e)) (y e)) (z e) (s e)
    ∙ ap (λ w. bit_xor w (product (z e) (s e))) (product-xor_left (bit_xor (shares e) (x e)) (y e) (s e)
    ∙ ap (λ w. bit_xor w (product (y e) (s e))) (product-xor_left (shares e) (x e) (s e))))
    ∙ xor_sum-xor 4 (λ e. bit_xor (bit_xor (product (shares e) (s e)) (product (x e) (s e))) (product (y e) (s e))) (λ e. product (z e) (s e))
    ∙ ap (λ w. bit_xor w (added f.third s)) (xor_sum-xor 4 (λ e. bit_xor (product (shares e) (s e)) (product (x e) (s e))) (λ e. product (y e) (s e))
    ∙ ap (λ w. bit_xor w (added f.second s)) (xor_sum-xor 4 (λ e. product (shares e) (s e)) (λ e. product (x e) (s e))))

-- what is added at one lane
pub addend_is : (shares : Option (List ℕ)) (made : List ℕ) (s : ℕ → ℕ → ℕ) (k : ℕ) → k < LANES → IfSome shares (λ a. (j : ℕ) → j < LANES → get_or made j 0 ≡ sum_by a (s j)) → addend shares made k ≡ added shares (s k)
addend_is None made s k l is = sym (xor_sum_zero 4 (λ e. product 0 (s k e)) (λ e m. product-zero_left (s k e)))
addend_is (Some a) made s k l is = is k l

-- with what is added, a formula gives the sum by its shares, at one place
pub made_at : (f : Formula) (s : ℕ → ℕ) (x y z : ℕ) → IsFormula f → x ≡ added f.first s → y ≡ added f.second s → z ≡ added f.third s
    → bit_xor (bit_xor (bit_xor (combined f.factors s) z) y) x ≡ sum_by f.shares s
made_at f s x y z is first second third =
    let whole = sum_by f.shares s in
    let with_first = bit_xor whole (added f.first s) in
    let with_second = bit_xor with_first (added f.second s) in
    ap₂ bit_xor (ap₂ bit_xor (ap₂ bit_xor (factors_give f s is) third ∙ xor_back with_second (added f.third s)) second ∙ xor_back with_first (added f.second s)) first
    ∙ xor_back whole (added f.first s)

-- with what is added, a formula gives the sum by its shares
pub made_by : (f : Formula) (lists : List (Option (Bor (List ℕ)))) (x y z : List ℕ) (n k : ℕ) → k < n → IsFormula f → HasSums lists f.first n x → HasSums lists f.second n y → HasSums lists f.third n z
    → bit_xor (bit_xor (bit_xor (combined f.factors (λ e. wide_syndrome e (column_at lists k))) (addend f.third z k)) (addend f.second y k)) (addend f.first x k) ≡ sum_by f.shares (λ e. wide_syndrome e (column_at lists k))
made_by f lists x y z n k l is first second third =
    let s = λ (e : ℕ). wide_syndrome e (column_at lists k) in
    let whole = sum_by f.shares s in
    let with_first = bit_xor whole (added f.first s) in
    let with_second = bit_xor with_first (added f.second s) in
    ap₂ bit_xor (ap₂ bit_xor (ap₂ bit_xor (factors_give f s is) (added_is lists f.third n k z l third) ∙ xor_back with_second (added f.third s)) (added_is lists f.second n k y l second) ∙ xor_back with_first (added f.second s)) (added_is lists f.first n k x l first)
    ∙ xor_back whole (added f.first s)

-- what is added was made before
pub sums_if : (lists : List (Option (Bor (List ℕ)))) (o made : Option (List ℕ)) (n : ℕ) (bytes : List ℕ) → IsNoneOr o made → HasSums lists made n bytes → HasSums lists o n bytes
sums_if lists o made n bytes is sums =
    elim is [
      | inl none ↦ subst (λ a. HasSums lists a n bytes) (sym none) tt
      | inr same ↦ subst (λ a. HasSums lists a n bytes) (sym same) sums
    ]

pub room_if : (o made : Option (List ℕ)) (n : ℕ) (bytes : List ℕ) → IsNoneOr o made → HasRoom made n bytes → HasRoom o n bytes
room_if o made n bytes is room =
    elim is [
      | inl none ↦ subst (λ a. HasRoom a n bytes) (sym none) tt
      | inr same ↦ subst (λ a. HasRoom a n bytes) (sym same) room
    ]

pub made_none : (lists : List (Option (Bor (List ℕ)))) (shares : Option (List ℕ)) (bytes : List ℕ) → HasSums lists shares 0 bytes
made_none lists None bytes = tt
made_none lists (Some a) bytes = λ k l. absurd (omega arith)
