-- The lost fragments of stripes, counted.
use Rattle.std.proofs.Common.{◌≡◌, ℕ, zero, suc, ◌+◌, ◌*◌, ◌<◌, ◌≤◌, Bool, true, false, cond, refl, sym, ap, ap₂, ◌∙◌, arith}
use Rattle.std.specs.Prelude.{count_by}
use Rattle.lrc_code.specs.declared.Code.{Code}
use Rattle.lrc_code.specs.declared.Code.TheVariants.{Wide, Small}
use Rattle.lrc_code.specs.Code.{fragment_count, all_fragments}
use Rattle.lrc_code.specs.Count.{count_below}
use Rattle.sealed.specs.declared.value.Sealed.{Sealed}
use Rattle.sealed.specs.Sealed.{absent_in}
use Rattle.session.specs.LostBits.{lost_count}

agree_below : (t u : ℕ → Bool) (n : ℕ) → ((f : ℕ) → f < n → t f ≡ u f) → count_below t n ≡ count_below u n
agree_below t u zero same = refl
agree_below t u (suc n) same = ap₂ (λ (b : Bool) (k : ℕ). cond b 1 0 + k) (same n (omega arith)) (agree_below t u n (λ f l. same f (omega arith)))

count_all : (code : Code) (t : ℕ → Bool) → count_by t (all_fragments code) ≡ count_below t (fragment_count code)
count_all Wide t = omega arith
count_all Small t = omega arith

pub counted : (code : Code) (t u : ℕ → Bool) → ((f : ℕ) → f < fragment_count code → t f ≡ u f) → count_by t (all_fragments code) ≡ count_below u (fragment_count code)
counted code t u same = count_all code t ∙ agree_below t u (fragment_count code) same

bit_least : (b : Bool) → cond b 1 0 ≤ 1
bit_least true = omega arith
bit_least false = omega arith

count_least : (t : ℕ → Bool) (n : ℕ) → count_below t n ≤ n
count_least t zero = omega arith
count_least t (suc n) = omega (arith, bit_least (t n), count_least t n)

pub count_of : (code : Code) (t : ℕ → Bool) → count_below t (fragment_count code) ≤ 16
count_of Wide t = count_least t 16
count_of Small t = omega (arith, count_least t 10)

pub lost_least : (s : Sealed) (n : ℕ) → lost_count s n ≤ 16 * n
lost_least s zero = omega arith
lost_least s (suc n) = omega (arith, lost_least s n, count_of s.code (absent_in s n))
