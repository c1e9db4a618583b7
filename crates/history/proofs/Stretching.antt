-- A stretch after one more entry is written: first its copy, and then the entry itself.
use Rattle.std.proofs.Common.{◌≡◌, ℕ, ◌+◌, ◌-◌, ◌<◌, ◌≤◌, List, [], ◌∷◌, ◌++◌, take, drop, set, length, sym, ap, ◌∙◌, arith}
use mathlib.Core.Logic.{dite}
use native.Mathlib.Decide.{dec_le}
use Rattle.std.proofs.Math.Seq.{take-set-lt}
use Rattle.std.proofs.lemmas.List.{take-take, take-append-le, drop-append-le, drop-set-lt, drop_all, take_more_set, length-take, length-take-le, length-append, length-set}
use Rattle.history.specs.declared.note.Entry.{Entry}
use Rattle.history.specs.Stretch.{IsStretch}

-- what is known after both writes
pub record AreWritten (slots between after : List Entry) (limit end : ℕ) (x : Entry) : Type 0 where
  pub copied : limit ≤ end → between ≡ set slots (end - limit) x
  pub kept : end < limit → between ≡ slots
  pub items : take (end + 1) after ≡ take end between ++ x ∷ []

-- the slots up to the end, in which nothing but the copy is new
near : (slots between after : List Entry) (l e : ℕ) (x : Entry) → AreWritten slots between after l e x → e < l → take (e + 1) after ≡ take e slots ++ x ∷ []
near slots between after l e x w before = w.items ∙ ap (λ (xs : List Entry). take e xs ++ x ∷ []) (w.kept before)

far : (slots between after : List Entry) (l e : ℕ) (x : Entry) → AreWritten slots between after l e x → l ≤ e → e - l < e → take (e + 1) after ≡ set (take e slots) (e - l) x ++ x ∷ []
far slots between after l e x w behind less =
    w.items ∙ ap (λ (xs : List Entry). xs ++ x ∷ []) (ap (take e) (w.copied behind) ∙ take-set-lt e slots (e - l) x less)

-- the entry is the last
last : (q : List Entry) (s e k : ℕ) (x : Entry) → length q ≡ e → s ≤ e → k < s → drop s (set q k x ++ x ∷ []) ≡ drop s q ++ x ∷ []
last q s e k x size le before =
    let whole : s ≤ length (set q k x) = omega (arith, length-set q k x) in
    drop-append-le s (set q k x) (x ∷ []) whole ∙ ap (λ (xs : List Entry). xs ++ x ∷ []) (drop-set-lt s q k x before)

pub entries_after : (slots between after : List Entry) (l s e : ℕ) (x : Entry) → IsStretch slots l s e → e < s + l → AreWritten slots between after l e x
    → drop s (take (e + 1) after) ≡ drop s (take e slots) ++ x ∷ []
entries_after slots between after l s e x is room w =
    let begins : s < l = is.begins in
    let ordered : s ≤ e = is.ordered in
    let size : length (take e slots) ≡ e = length-take-le e slots is.reached in
    dite (dec_le l e)
    (λ (behind : l ≤ e). ap (drop s) (far slots between after l e x w behind (omega arith)) ∙ last (take e slots) s e (e - l) x size ordered (omega arith))
    (λ not. let before : e < l = omega arith in ap (drop s) (near slots between after l e x w before) ∙ drop-append-le s (take e slots) (x ∷ []) (omega arith))

-- and has its copy
copied_after : (slots between after : List Entry) (l s e : ℕ) (x : Entry) → IsStretch slots l s e → e < s + l → AreWritten slots between after l e x
    → drop l (take (e + 1) after) ≡ take (e + 1 - l) after
copied_after slots between after l s e x is room w =
    let begins : s < l = is.begins in
    let size : length (take e slots) ≡ e = length-take-le e slots is.reached in
    dite (dec_le l e)
    (λ (behind : l ≤ e).
    let k : ℕ = e - l in
    let q : List Entry = take e slots in
    let now : List Entry = set q k x in
    let less : k < e = omega arith in
    let wide : k + 1 ≤ length now = omega (arith, length-set q k x) in
    let all = far slots between after l e x w behind less in
    let left = ap (drop l) all ∙ last q l e k x size behind (omega arith) ∙ ap (λ (xs : List Entry). xs ++ x ∷ []) is.copied in
    let one : e + 1 - l ≡ k + 1 = omega arith in
    let right = ap (λ n. take n after) one ∙ sym (take-take (k + 1) (e + 1) after (omega arith)) ∙ ap (take (k + 1)) all
    ∙ take-append-le (k + 1) now (x ∷ []) wide ∙ take_more_set q k x (omega arith) ∙ ap (λ (xs : List Entry). xs ++ x ∷ []) (take-take k e slots (omega arith)) in
    left ∙ sym right)
    (λ not.
    let none : e + 1 - l ≡ 0 = omega arith in
    drop_all l (take (e + 1) after) (omega (arith, length-take (e + 1) after)) ∙ sym (ap (λ n. take n after) none))

reached_after : (slots between after : List Entry) (l s e : ℕ) (x : Entry) → IsStretch slots l s e → e < s + l → AreWritten slots between after l e x → e + 1 ≤ length after
reached_after slots between after l s e x is room w =
    let begins : s < l = is.begins in
    let size : length (take e slots) ≡ e = length-take-le e slots is.reached in
    let cut : length (take (e + 1) after) ≤ length after = omega (arith, length-take (e + 1) after) in
    dite (dec_le l e)
    (λ (behind : l ≤ e). omega (arith, cut, ap length (far slots between after l e x w behind (omega arith)), length-append (set (take e slots) (e - l) x) (x ∷ []), length-set (take e slots) (e - l) x))
    (λ not. let before : e < l = omega arith in omega (arith, cut, ap length (near slots between after l e x w before), length-append (take e slots) (x ∷ [])))

pub stretch_after : (slots between after : List Entry) (l s e : ℕ) (x : Entry) → IsStretch slots l s e → e < s + l → AreWritten slots between after l e x → IsStretch after l s (e + 1)
stretch_after slots between after l s e x is room w = record {
  begins = is.begins;
  ordered = omega (arith, is.ordered);
  fits = omega (arith, room);
  reached = reached_after slots between after l s e x is room w;
  copied = copied_after slots between after l s e x is room w;
}
