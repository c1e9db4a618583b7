-- Writes of one part of a list, of which each part has as many bytes.
use Rattle.std.proofs.Common.{◌≡◌, ◌≢◌, ℕ, ◌+◌, ◌-◌, ◌*◌, ◌<◌, ◌≤◌, List, length, take, sym, ap, ◌∙◌, arith, inl, inr}
use Rattle.std.specs.Prelude.{slice_range}
use Rattle.std.proofs.Math.ListN.{drop}
use Rattle.std.proofs.lemmas.Bool.{cases_lt}
use Rattle.std.proofs.lemmas.Slice.{between_is, take-put_mid_below, drop-put_mid}
use borrow.Rule.Slice.PartMut.{put_mid}
use Rattle.sealed.proofs.Packing.{part_ends}

module _ (xs ys : List ℕ) (w n : ℕ) (long : length ys ≡ w) (fits : w * n + w ≤ length xs) where
  before : (m : ℕ) → m < n → slice_range (put_mid (w * n) (w * n + w - w * n) xs ys) (w * m) (w * m + w) ≡ slice_range xs (w * m) (w * m + w)
  before m l =
      let ends : w * m + w ≤ w * n = part_ends w m n l in
      between_is (put_mid (w * n) (w * n + w - w * n) xs ys) (w * m) (w * m + w)
      ∙ ap (drop (w * m)) (take-put_mid_below (w * n) (w * n + w - w * n) xs ys (w * m + w) ends (omega arith))
      ∙ sym (between_is xs (w * m) (w * m + w))

  behind : (m : ℕ) → n < m → slice_range (put_mid (w * n) (w * n + w - w * n) xs ys) (w * m) (w * m + w) ≡ slice_range xs (w * m) (w * m + w)
  behind m l =
      let ends : w * n + w ≤ w * m = part_ends w n m l in
      ap (take (w * m + w - w * m)) (drop-put_mid (w * n) (w * n + w - w * n) xs ys (w * m) (omega arith) (omega arith) (omega arith))

  pub other_part : (m : ℕ) → m ≢ n → slice_range (put_mid (w * n) (w * n + w - w * n) xs ys) (w * m) (w * m + w) ≡ slice_range xs (w * m) (w * m + w)
  other_part m ne = elim (cases_lt m n) [
    | inl l ↦ before m l
    | inr from ↦ elim (cases_lt n m) [
      | inl l ↦ behind m l
      | inr upto ↦ absurd (ne (let e : m ≡ n = omega arith in e))
    ]
  ]
