-- The layout is a bijection between the bytes of a blob and the places of its data fragments that they fill.
use Rattle.lrc_code.specs.Code.{data_count}
use Rattle.std.proofs.Common.{◌≡◌, ℕ, ◌+◌, ◌-◌, ◌*◌, ◌/◌, ◌%◌, ◌<◌, ◌≤◌, sym, ◌∙◌, ap, subst, arith}
use Rattle.std.proofs.lemmas.Nat.{div-mul-add, div_below, le-div}
use Rattle.std.proofs.Math.Nat.{div-mul-le_self, mul-le-mul_right, mul_comm}
use Rattle.lrc_code.specs.declared.Code.{Code}
use Rattle.lrc_code.specs.declared.Code.TheVariants.{Wide, Small}
use Rattle.sealed.specs.Layout.{stripe_size, stripe_count, stripe_of, fragment_of, place_of, byte_of}

-- the data fragments counted through: place p of the data fragment f of stripe j
through : (code : Code) (w j f p : ℕ) → byte_of code w j f p ≡ (data_count code * j + f) * w + p
through Wide w j f p = omega arith
through Small w j f p = omega arith

turned : (code : Code) (w j f p : ℕ) → byte_of code w j f p ≡ j * stripe_size code w + (f * w + p)
turned Wide w j f p = omega arith
turned Small w j f p = omega arith

room : (code : Code) (w f p : ℕ) → f < data_count code → p < w → f * w + p < stripe_size code w
room Wide w f p l below = (let more : f * w ≤ 11 * w = mul-le-mul_right w (omega arith) in omega arith)
room Small w f p l below = (let more : f * w ≤ 5 * w = mul-le-mul_right w (omega arith) in omega arith)

some_size : (code : Code) (w : ℕ) → 1 ≤ w → 0 < stripe_size code w
some_size Wide w some = omega arith
some_size Small w some = omega arith

pub rest_of : (x d q r : ℕ) → x ≡ q * d + r → x / d ≡ q → x % d ≡ r
rest_of x d q r e h = (let whole : d * (x / d) + x % d ≡ x = omega arith in let whole' : d * q + x % d ≡ x = subst (λ (k : ℕ). d * k + x % d ≡ x) h whole in omega arith)

module _ (code : Code) (w : ℕ) (some : 1 ≤ w) where
  -- a place of a data fragment is that of its byte
  pub place_back : (j f p : ℕ) → f < data_count code → p < w
      → (stripe_of code w (byte_of code w j f p) ≡ j) × (fragment_of code w (byte_of code w j f p) ≡ f) × (place_of w (byte_of code w j f p) ≡ p)
  place_back j f p l below =
      let i = byte_of code w j f p in
      let S = stripe_size code w in
      let q : i / S ≡ j = ap (λ n. n / S) (turned code w j f p) ∙ div-mul-add j S (f * w + p) (room code w f p l below) in
      let r : i % S ≡ f * w + p = rest_of i S j (f * w + p) (turned code w j f p) q in
      let k : i / w ≡ data_count code * j + f = ap (λ n. n / w) (through code w j f p) ∙ div-mul-add (data_count code * j + f) w p below in
      (q, ap (λ n. n / w) r ∙ div-mul-add f w p below, rest_of i w (data_count code * j + f) p (through code w j f p) k)

  pub fragment_inside : (i : ℕ) → fragment_of code w i < data_count code
  fragment_inside i = div_below (i % stripe_size code w) w (data_count code) some (let s = some_size code w some in omega arith)

  pub place_inside : (i : ℕ) → place_of w i < w
  place_inside i = omega arith

  -- a byte is that of its place
  pub byte_back : (i : ℕ) → byte_of code w (stripe_of code w i) (fragment_of code w i) (place_of w i) ≡ i
  byte_back i =
      let S = stripe_size code w in
      let f = fragment_of code w i in
      let p = (i % S) % w in
      let outer : S * (i / S) + i % S ≡ i = omega arith in
      let inner : w * f + p ≡ i % S = omega arith in
      let all : i ≡ byte_of code w (i / S) f p = omega arith in
      let same : place_of w i ≡ p = ap (place_of w) all ∙ (place_back (i / S) f p (fragment_inside i) (omega arith)).2 in
      ap (byte_of code w (stripe_of code w i) f) same ∙ sym all

  -- and lies in a stripe of the blob
  pub stripe_inside : (i len : ℕ) → i < len → stripe_of code w i < stripe_count code w len
  stripe_inside i len l =
      let S = stripe_size code w in
      let s = some_size code w some in
      let outer : S * (i / S) + i % S ≡ i = omega arith in
      let q : i / S + 1 ≤ (len + S - 1) / S = le-div (i / S + 1) (len + S - 1) S s (omega arith) in
      omega arith

  -- the data fragments numbered through the blob: byte i lies in the (i / w)-th
  counted : (i : ℕ) → i / w ≡ stripe_of code w i * data_count code + fragment_of code w i
  counted i =
      let j = stripe_of code w i in
      let f = fragment_of code w i in
      ap (λ n. n / w) (sym (byte_back i) ∙ through code w j f (place_of w i))
      ∙ div-mul-add (data_count code * j + f) w (place_of w i) (place_inside i)
      ∙ ap (λ n. n + f) (mul_comm (data_count code) j)

  pub stripe_by_count : (i : ℕ) → stripe_of code w i ≡ (i / w) / data_count code
  stripe_by_count i =
      sym (ap (λ n. n / data_count code) (counted i) ∙ div-mul-add (stripe_of code w i) (data_count code) (fragment_of code w i) (fragment_inside i))

  pub fragment_by_count : (i : ℕ) → fragment_of code w i ≡ (i / w) % data_count code
  fragment_by_count i = sym (rest_of (i / w) (data_count code) (stripe_of code w i) (fragment_of code w i) (counted i) (sym (stripe_by_count i)))

  -- the k-th of them lies in a stripe of the blob, if it begins below the blob's end
  pub stripe_below : (k len : ℕ) → k * w < len → k / data_count code < stripe_count code w len
  stripe_below k len below =
      let whole : (k * w) / w ≡ k = ap (λ n. n / w) (let e : k * w ≡ k * w + 0 = omega arith in e) ∙ div-mul-add k w 0 some in
      subst (λ n. n < stripe_count code w len) (stripe_by_count (k * w) ∙ ap (λ n. n / data_count code) whole) (stripe_inside (k * w) len below)

  -- a stripe of the blob begins below its end
  pub stripe_begins : (j len : ℕ) → j < stripe_count code w len → stripe_size code w * j < len
  stripe_begins j len l =
      let S = stripe_size code w in
      let positive = some_size code w some in
      let under : (len + S - 1) / S * S ≤ len + S - 1 = div-mul-le_self (len + S - 1) S in
      let scaled : (j + 1) * S ≤ (len + S - 1) / S * S = mul-le-mul_right S (omega arith) in
      let e : (j + 1) * S ≡ S * j + S = omega arith in
      omega arith
