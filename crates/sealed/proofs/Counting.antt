-- How many data fragments and stripes there are.
use Rattle.std.proofs.Common.{◌≡◌, ◌≢◌, ℕ, ◌+◌, ◌-◌, ◌*◌, ◌/◌, ◌%◌, ◌<◌, ◌≤◌, min, refl, sym, ◌∙◌, ap, arith, inl, inr}
use Rattle.std.proofs.Math.Nat.{div-mul-le_self}
use Rattle.std.proofs.lemmas.Nat.{div-mul-add, le-div}
use Rattle.std.proofs.lemmas.Bool.{cases_eq}
use Rattle.lrc_code.specs.declared.Code.{Code}
use Rattle.lrc_code.specs.declared.Code.TheVariants.{Wide, Small}
use Rattle.lrc_code.specs.Code.{data_count, fragment_count}

pub some_data : (code : Code) → 1 ≤ data_count code
some_data Wide = omega arith
some_data Small = omega arith

pub few_data : (code : Code) → data_count code ≤ 12
few_data Wide = omega arith
few_data Small = omega arith

pub data_is_counted : (code : Code) → data_count code ≤ fragment_count code
data_is_counted Wide = omega arith
data_is_counted Small = omega arith

pub few_fragments : (code : Code) → fragment_count code ≤ 16
few_fragments Wide = omega arith
few_fragments Small = omega arith

pub parity_count : (code : Code) → fragment_count code ≡ data_count code + 4
parity_count Wide = refl
parity_count Small = refl

pub div_mono : (w a b : ℕ) → 1 ≤ w → a ≤ b → a / w ≤ b / w
div_mono w a b some le = let under : a / w * w ≤ a = div-mul-le_self a w in le-div (a / w) b w some (omega arith)

-- a quotient that is rounded up, by dividing first
pub rounded_up : (n d : ℕ) → 1 ≤ d → n / d + min 1 (n % d) ≡ (n + d - 1) / d
rounded_up n d some =
    let q = n / d in
    let r = n % d in
    let whole : d * q + r ≡ n = omega arith in
    let under : r < d = omega arith in
    elim (cases_eq r 0) [
      | inl none ↦
          (let none' : n % d ≡ 0 = none in
          let e : n + d - 1 ≡ q * d + (d - 1) = omega arith in
          sym (ap (λ x. x / d) e ∙ div-mul-add q d (d - 1) (omega arith) ∙ (let z : q ≡ n / d + min 1 (n % d) = omega arith in z)))
      | inr more ↦
          (let more' : n % d ≢ 0 = more in
          let e : n + d - 1 ≡ (q + 1) * d + (r - 1) = omega arith in
          sym (ap (λ x. x / d) e ∙ div-mul-add (q + 1) d (r - 1) (omega arith) ∙ (let z : q + 1 ≡ n / d + min 1 (n % d) = omega arith in z)))
    ]
