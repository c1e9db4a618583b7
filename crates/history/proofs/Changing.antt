-- Entries of which none behind some place can change anything.
use Rattle.std.proofs.Common.{◌≡◌, ℕ, zero, suc, ◌-◌, ◌≤◌, min, Bool, true, false, List, [], ◌∷◌, take, drop, cond, refl, sym, ap, ◌∙◌, arith}
use mathlib.Core.Logic.{dite}
use native.Mathlib.Decide.{dec_le}
use Rattle.std.proofs.Math.Seq.{drop-nil}
use Rattle.history.specs.Parts.{can_change, changes_of}
use Rattle.history.specs.declared.note.Entry.{Entry}

tail_idle : (e : Entry) (es : List Entry) → changes_of (e ∷ es) ≡ [] → changes_of es ≡ []
tail_idle e es idle = by (can_change e.call) idle
  where
    by : (b : Bool) → cond b (e ∷ changes_of es) (changes_of es) ≡ [] → changes_of es ≡ []
    by true some = absurd (cc)
    by false none = none

-- after the first ones are discarded
pub idle_behind : (n k m : ℕ) (es : List Entry) → m ≡ k - n → changes_of (drop k es) ≡ [] → changes_of (drop m (drop n es)) ≡ []
idle_behind zero k m es is none = let same : m ≡ k = omega arith in ap (λ x. changes_of (drop x es)) same ∙ none
idle_behind (suc n) k m [] is none = ap changes_of (drop-nil m)
idle_behind (suc n) zero m (e ∷ es) is none = idle_behind n zero m es (omega arith) (tail_idle e es none)
idle_behind (suc n) (suc k) m (e ∷ es) is none = idle_behind n k m es (omega arith) none

none_before : (n : ℕ) (es : List Entry) → changes_of es ≡ [] → changes_of (take n es) ≡ []
none_before zero es none = refl
none_before (suc n) [] none = refl
none_before (suc n) (e ∷ es) none = by (can_change e.call) none (none_before n es (tail_idle e es none))
  where
    by : (b : Bool) → cond b (e ∷ changes_of es) (changes_of es) ≡ [] → changes_of (take n es) ≡ [] → cond b (e ∷ changes_of (take n es)) (changes_of (take n es)) ≡ []
    by true some rest = absurd (cc)
    by false all rest = rest

before_last : (n k : ℕ) (es : List Entry) → k ≤ n → changes_of (drop k es) ≡ [] → changes_of (take k es) ≡ changes_of (take n es)
before_last n zero es le none = sym (none_before n es none)
before_last zero (suc k) es le none = absurd (omega arith)
before_last (suc n) (suc k) [] le none = refl
before_last (suc n) (suc k) (e ∷ es) le none = ap (λ (cs : List Entry). cond (can_change e.call) (e ∷ cs) cs) (before_last n k es (omega arith) none)

-- so those among the first n stand before the place
pub changes_before : (n k m : ℕ) (es : List Entry) → m ≡ min n k → changes_of (drop k es) ≡ [] → changes_of (take m es) ≡ changes_of (take n es)
changes_before n k m es is none = dite (dec_le k n)
    (λ (le : k ≤ n). let last : m ≡ k = omega arith in ap (λ x. changes_of (take x es)) last ∙ before_last n k es le none)
    (λ more. let all : m ≡ n = omega arith in ap (λ x. changes_of (take x es)) all)
