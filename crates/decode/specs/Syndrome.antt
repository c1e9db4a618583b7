-- The four syndromes of a column of which bytes are lost, and a lost byte as a sum of them.
use Rattle.std.specs.Prelude.{◌≡◌, ℕ, ◌<◌, Bool, cond, List}
use Rattle.gf256.specs.Field.{product}
use Rattle.kernels.specs.Lists.{xor_sum}
use Rattle.lrc_code.specs.declared.Code.{Code}
use Rattle.lrc_code.specs.Code.{fragment_count, weight, IsColumn}
use Rattle.syndromes.specs.Syndromes.{sum_by}

-- what the bytes b come to in equation e. All four are 0 where b is a column
abbrev pub syndrome : Code → ℕ → (ℕ → ℕ) → ℕ
syndrome code e b = xor_sum (fragment_count code) (λ i. product (weight code e i) (b i))

-- b has the bytes of c that remain, and 0 for each lost one
abbrev pub IsRemainderOf : Code → (ℕ → Bool) → (ℕ → ℕ) → (ℕ → ℕ) → Type 0
IsRemainderOf code lost c b = (i : ℕ) → i < fragment_count code → b i ≡ cond (lost i) 0 (c i)

-- in each column the byte at f is the sum of the syndromes of what remains, each times its share
abbrev pub AreShares : Code → (ℕ → Bool) → ℕ → List ℕ → Type 0
AreShares code lost f shares = (c b : ℕ → ℕ) → IsColumn code c → IsRemainderOf code lost c b
    → c f ≡ sum_by shares (λ e. syndrome code e b)
