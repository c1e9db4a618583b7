-- How many stripes a set has: one number, which is small beside what 64 bits hold.
use Rattle.std.proofs.Common.{◌≡◌, ◌+◌, ◌*◌, ◌<◌, ◌≤◌, ℕ, suc, arith}
use Rattle.std.proofs.Math.Nat.{lt_of_mul-lt-mul_right, mul-le-mul_right, mul-le-mul_left}
use Rattle.lrc_code.specs.declared.Code.{Code}
use Rattle.lrc_code.specs.declared.Code.TheVariants.{Wide, Small}
use Rattle.lrc_code.specs.Code.{data_count}

at_most : (s m n len : ℕ) → n * s < len + s → len ≤ m * s → n < suc m
at_most s m n len a b = lt_of_mul-lt-mul_right s {m = n} {n = suc m} (omega (arith, a, b))

pub same_count : (s m n len : ℕ) → len ≤ m * s → m * s < len + s → len ≤ n * s → n * s < len + s → m ≡ n
same_count s m n len a b c d = omega (arith, at_most s m n len d a, at_most s n m len b c)

least_data : (code : Code) → 6 ≤ data_count code
least_data Wide = omega arith
least_data Small = omega arith

most_data : (code : Code) → data_count code ≤ 12
most_data Wide = omega arith
most_data Small = omega arith

-- the records of a file are no longer than the stripes
pub short_records : (code : Code) (w n : ℕ) → 64 ≤ w → n * (w + 32) ≤ n * (data_count code * w)
short_records code w n wide =
    let six : 6 * w ≤ data_count code * w = mul-le-mul_right {m = 6} {n = data_count code} w (least_data code) in
    mul-le-mul_left {m = w + 32} {n = data_count code * w} n (omega (arith, six, wide))

pub small_stripe : (code : Code) (w : ℕ) → w ≤ 1048576 → data_count code * w ≤ 12582912
small_stripe code w narrow =
    let twelve : data_count code * w ≤ 12 * w = mul-le-mul_right {m = data_count code} {n = 12} w (most_data code) in
    omega (arith, twelve, narrow)
