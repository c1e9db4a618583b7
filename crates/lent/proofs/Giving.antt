-- The parts ahead of a walk that keeps its recipes: the cut without the parts already returned.
use Rattle.std.proofs.Common.{◌≡◌, ℕ, zero, suc, ◌+◌, ◌-◌, ◌*◌, ◌/◌, ◌<◌, ◌≤◌, ◌^◌, List, [], ◌∷◌, drop, map, length, refl, sym, ap, ap₂, ◌∙◌, subst, arith}
use Rattle.std.specs.List.{range_with_len}
use Rattle.std.proofs.lemmas.List.{drop-map}
use Rattle.std.proofs.lemmas.List.FromFn.{length-map-range_with_len}
use Rattle.std.proofs.lemmas.Nat.{div_below}
use Rattle.std.proofs.Math.Nat.{mul-le-mul_left}
use Rattle.sealed.specs.Layout.{stripe_count}
use Rattle.lrc_code.specs.Code.{data_count}
use Rattle.lrc_code.specs.declared.Code.{Code}
use Rattle.lent.specs.declared.grant.Grant.{Grant}
use Rattle.lent.specs.declared.part.Part.{Part}
use Rattle.lent.specs.declared.piece.Piece.{Piece}
use Rattle.lent.specs.Ahead.{Ahead}
use Rattle.sealed.specs.Range.{cut_end}
use Rattle.lent.specs.Cut.{cut_part, cut}
use Rattle.lent.specs.Pieces.{IsPieceOf}
use Rattle.lent.specs.Walk.{Gives, Joins}
use Rattle.lent.proofs.Cutting.{cut_end_is}
use Rattle.lent.proofs.Joining.{ahead_at, step_gives, step_joins}

drop_range : (k a n : ℕ) → drop k (range_with_len a n) ≡ range_with_len (a + k) (n - k)
drop_range zero a n = ap₂ range_with_len (let e : a ≡ a + 0 = omega arith in e) (let e : n ≡ n - 0 = omega arith in e)
drop_range (suc k) a zero = ap (range_with_len (a + suc k)) (let e : 0 ≡ 0 - suc k = omega arith in e)
drop_range (suc k) a (suc n) =
    drop_range k (a + 1) n ∙ ap₂ range_with_len (let e : a + 1 + k ≡ a + suc k = omega arith in e) (let e : n - k ≡ suc n - suc k = omega arith in e)

-- what lies ahead behind the first k parts
abbrev pub ahead_behind : Grant → ℕ → Ahead
ahead_behind g k = record { sealed = g.sealed.value; parts = drop k (cut g.sealed.value.code g.sealed.value.width g.start g.len) }

abbrev pub first_of : Grant → ℕ
first_of g = g.start / g.sealed.value.width

abbrev pub end_of : Grant → ℕ
end_of g = cut_end g.sealed.value.width g.start g.len

parts_are : (g : Grant) (k m : ℕ) → first_of g + k ≡ m → drop k (cut g.sealed.value.code g.sealed.value.width g.start g.len) ≡ (ahead_at g.sealed.value g.start (g.start + g.len) (end_of g) m).parts
parts_are g k m at =
    let s = g.sealed.value in
    drop-map (cut_part s.code s.width g.start (g.start + g.len)) k (range_with_len (first_of g) (end_of g - first_of g))
    ∙ ap (map (cut_part s.code s.width g.start (g.start + g.len)))
    (drop_range k (first_of g) (end_of g - first_of g) ∙ ap₂ range_with_len at (let e : end_of g - first_of g - k ≡ end_of g - m = omega (arith, at) in e))

ahead_is : (g : Grant) (k m : ℕ) → first_of g + k ≡ m → ahead_at g.sealed.value g.start (g.start + g.len) (end_of g) m ≡ ahead_behind g k
ahead_is g k m at = ap (λ (parts : List Part). let a : Ahead = record { sealed = g.sealed.value; parts = parts } in a) (sym (parts_are g k m at))

-- behind the last part nothing lies ahead
pub nothing_ahead : (g : Grant) (k : ℕ) → end_of g ≤ first_of g + k → drop k (cut g.sealed.value.code g.sealed.value.width g.start g.len) ≡ []
nothing_ahead g k past =
    let s = g.sealed.value in
    parts_are g k (first_of g + k) refl
    ∙ ap (λ n. map (cut_part s.code s.width g.start (g.start + g.len)) (range_with_len (first_of g + k) n)) (let e : end_of g - (first_of g + k) ≡ 0 = omega (arith, past) in e)

module _ (g : Grant) (k m : ℕ) (at_m : first_of g + k ≡ m) (l : m < end_of g) (part : Part) (at : part ≡ cut_part g.sealed.value.code g.sealed.value.width g.start (g.start + g.len) m) where
  after : ahead_at g.sealed.value g.start (g.start + g.len) (end_of g) (m + 1) ≡ ahead_behind g (k + 1)
  after = ahead_is g (k + 1) (m + 1) (omega (arith, at_m))

  -- the first part ahead
  pub next_part : drop k (cut g.sealed.value.code g.sealed.value.width g.start g.len) ≡ part ∷ drop (k + 1) (cut g.sealed.value.code g.sealed.value.width g.start g.len)
  next_part =
      let s = g.sealed.value in
      let f = cut_part s.code s.width g.start (g.start + g.len) in
      parts_are g k m at_m
      ∙ ap (λ n. map f (range_with_len m n)) (let e : end_of g - m ≡ suc (end_of g - (m + 1)) = omega (arith, l) in e)
      ∙ ap₂ (λ (p : Part) (ps : List Part). p ∷ ps) (sym at) (sym (parts_are g (k + 1) (m + 1) (omega (arith, at_m))))

  module _ (piece : Piece) (is : IsPieceOf g.sealed.value part piece) where
    pub planned_gives : Gives (ahead_behind g k) (ahead_behind g (k + 1)) piece
    planned_gives =
        let s = g.sealed.value in
        subst (λ (a : Ahead). Gives (ahead_behind g k) a piece) after (step_gives s g.start (g.start + g.len) (end_of g) m l part at piece is (ahead_behind g k) (ahead_is g k m at_m))

    pub planned_joins : part.stripe < stripe_count g.sealed.value.code g.sealed.value.width g.sealed.value.len → part.fragment < data_count g.sealed.value.code
        → part.to ≤ g.sealed.value.width → Joins (ahead_behind g k) (ahead_behind g (k + 1)) piece
    planned_joins below is_data inside =
        let s = g.sealed.value in
        subst (λ (a : Ahead). Joins (ahead_behind g k) a piece) after (step_joins s g.start (g.start + g.len) (end_of g) m l part at piece is (ahead_behind g k) (ahead_is g k m at_m) below is_data inside)

-- a cut has no more parts than its range ends at bytes
pub few_parts : (code : Code) (w start len : ℕ) → 1 ≤ w → start + len < 2 ^ 64 → length (cut code w start len) < 2 ^ 64
few_parts code w start zero wide few =
    let long = length-map-range_with_len (cut_part code w start (start + zero)) (start / w) (cut_end w start zero - start / w) in
    omega (arith, long)
few_parts code w start (suc len) wide few =
    let long = length-map-range_with_len (cut_part code w start (start + suc len)) (start / w) (cut_end w start (suc len) - start / w) in
    let n = start + suc len - 1 in
    let times : (n + 1) * 1 ≤ (n + 1) * w = mul-le-mul_left (n + 1) wide in
    let under : n / w < n + 1 = div_below n w (n + 1) wide (omega (arith, times)) in
    let end : cut_end w start (suc len) ≡ n / w + 1 = cut_end_is w start len in
    omega (arith, long, under, few, end)
