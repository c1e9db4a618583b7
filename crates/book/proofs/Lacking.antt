-- How many fragments a sealed value lacks: as many as are lost of the blob that it represents.
use Rattle.std.proofs.Common.{◌≡◌, ◌≢◌, ℕ, zero, suc, ◌+◌, ◌-◌, ◌*◌, ◌/◌, ◌%◌, ◌<◌, ◌≤◌, Bool, true, false, not, ◌&&◌, List, None, Some, is_none, cond, length, refl, sym, ap, ◌∙◌, subst, arith, inl, inr}
use Rattle.std.specs.Prelude.{nat_lt}
use Rattle.std.specs.FinSet as set
use Rattle.std.specs.Ordering.{eq_by_cmp}
use Rattle.std.proofs.lemmas.Bool.{and_parts, cases_Bool, cases_eq, false≢true}
use Rattle.std.proofs.lemmas.Grind.{common_steps}
use Rattle.lrc_code.specs.declared.Code.{Code}
use Rattle.lrc_code.specs.declared.Code.TheVariants.{Wide, Small}
use Rattle.lrc_code.specs.Code.{fragment_count, excess_of}
use Rattle.lrc_code.specs.Count.{count_below}
use Rattle.lrc_code.proofs.Count.{count_same}
use Rattle.sealed.proofs.Counting.{few_fragments}
use Rattle.sealed.specs.declared.value.Sealed.{Sealed}
use Rattle.sealed.specs.Layout.{stripe_count}
use Rattle.sealed.specs.Blob.{Lost, nothing, lost_in, pair_cmp}
use Rattle.sealed.specs.Sealed.{StandsFor, absent_in}
use Rattle.book.specs.Lacking.{lacks, lacked_count, view_in}
use Rattle.book.specs.Numbers.{open_stripes}
use Rattle.book.specs.Totals.{has_open, open_count}
use Rattle.history.specs.State.{Blob, IsLostInside}
use Rattle.book.specs.Holds.{Represents}
use Rattle.history.specs.Views.{view_of}
use Rattle.history.proofs.Keeping.{same_truth, lt_of, is_lt, both}
use Rattle.sealed.proofs.Changing.{pairs_total}
use Rattle.book.proofs.Same.{same_lost}

-- ---- counting
one_at_most : (c n : ℕ) (b : Bool) → c ≤ n → cond b 1 0 + c ≤ n + 1
one_at_most c n true l = omega arith
one_at_most c n false l = omega arith

pub count_bound : (p : ℕ → Bool) (n : ℕ) → count_below p n ≤ n
count_bound p zero = omega arith
count_bound p (suc n) = (let l = one_at_most (count_below p n) n (p n) (count_bound p n) in omega arith)

pub count_none : (p : ℕ → Bool) (n : ℕ) → ((i : ℕ) → i < n → p i ≡ false) → count_below p n ≡ 0
count_none p zero none = refl
count_none p (suc n) none = λ t. cond (none n (omega arith) t) 1 0 + count_none p n (λ i l. none i (omega arith)) t

-- one more number fulfils the condition
pub count_more : (p q : ℕ → Bool) (k n : ℕ) → k < n → p k ≡ false → q k ≡ true → ((i : ℕ) → i < n → i ≢ k → p i ≡ q i) → count_below q n ≡ count_below p n + 1
count_more p q k zero l old new same = absurd (omega arith)
count_more p q k (suc n) l old new same =
    elim (cases_eq n k) [
      | inl here ↦
          let before : count_below p n ≡ count_below q n = count_same p q n (λ i h. same i (omega arith) (λ e. omega (arith, e, here, h))) in
          let was : ◌≡◌ {A = ℕ} (cond (p n) 1 0) 0 = ap (λ x. cond (p x) 1 0) here ∙ ap (λ b. cond b 1 0) old in
          let is : ◌≡◌ {A = ℕ} (cond (q n) 1 0) 1 = ap (λ x. cond (q x) 1 0) here ∙ ap (λ b. cond b 1 0) new in
          omega (arith, before, was, is)
      | inr past ↦
          let more : count_below q n ≡ count_below p n + 1 = count_more p q k n (omega (arith, past)) old new (λ i h. same i (omega arith)) in
          let last : ◌≡◌ {A = ℕ} (cond (p n) 1 0) (cond (q n) 1 0) = ap (λ b. cond b 1 0) (same n (omega arith) past) in
          omega (arith, more, last)
    ]

-- the test differs at k alone
pub count_other : (p q : ℕ → Bool) (k n : ℕ) → k < n → ((i : ℕ) → i < n → i ≢ k → p i ≡ q i) → count_below q n + cond (p k) 1 0 ≡ count_below p n + cond (q k) 1 0
count_other p q k zero l same = absurd (omega arith)
count_other p q k (suc n) l same =
    elim (cases_eq n k) [
      | inl here ↦
          let before : count_below p n ≡ count_below q n = count_same p q n (λ i h. same i (omega arith) (λ e. omega (arith, e, here, h))) in
          let was : ◌≡◌ {A = ℕ} (cond (p n) 1 0) (cond (p k) 1 0) = ap (λ x. cond (p x) 1 0) here in
          let is : ◌≡◌ {A = ℕ} (cond (q n) 1 0) (cond (q k) 1 0) = ap (λ x. cond (q x) 1 0) here in
          omega (arith, before, was, is)
      | inr past ↦
          let more : count_below q n + cond (p k) 1 0 ≡ count_below p n + cond (q k) 1 0 = count_other p q k n (omega (arith, past)) (λ i h. same i (omega arith)) in
          let last : ◌≡◌ {A = ℕ} (cond (p n) 1 0) (cond (q n) 1 0) = ap (λ b. cond b 1 0) (same n (omega arith) past) in
          omega (arith, more, last)
    ]

-- ---- a set of pairs, by the number of each
pair_of_number : (n j f : ℕ) → f < 16 → n ≡ 16 * j + f → eq_by_cmp pair_cmp (n / 16, n % 16) (j, f) ≡ true
pair_of_number n j f l e = grind (arith, common_steps)

number_of_pair : (a b j f : ℕ) → eq_by_cmp pair_cmp (a, b) (j, f) ≡ true → (a ≡ j) × (b ≡ f)
number_of_pair a b j f e = (grind (arith, common_steps), grind (arith, common_steps))

other_number : (i n : ℕ) → i < n → eq_by_cmp pair_cmp (i / 16, i % 16) (n / 16, n % 16) ≡ false
other_number i n l =
    elim (cases_Bool (eq_by_cmp pair_cmp (i / 16, i % 16) (n / 16, n % 16))) [
      | inl same ↦ let e = number_of_pair (i / 16) (i % 16) (n / 16) (n % 16) same in absurd (omega (arith, e.0, e.1, l))
      | inr other ↦ other
    ]

at_least_one : (lost : Lost) (p : ℕ × ℕ) → set.contains lost p ≡ true → 1 ≤ set.len lost
at_least_one lost p h =
    elim (cases_eq (set.len lost) 0) [
      | inl none ↦ absurd (false≢true (sym (set.contains-empty pair_cmp p) ∙ ap (λ (s : Lost). set.contains s p) (sym (set.empty_of_len lost none)) ∙ h))
      | inr some ↦ omega (arith, some)
    ]

last_one : (b : Bool) (c m n : ℕ) → (b ≡ true → 1 ≤ n) → c ≡ m → m ≡ cond b (n - 1) n → cond b 1 0 + c ≡ n
last_one true c m n some e is = (let s = some refl in omega arith)
last_one false c m n some e is = omega arith

pairs_are_tied : set.IsAntisymmetric pair_cmp
pairs_are_tied a b e = grind (arith, common_steps)

pub counted : (n : ℕ) (lost : Lost) → ((j f : ℕ) → lost_in lost j f ≡ true → (f < 16) × (16 * j + f < n)) → count_below (λ i. lost_in lost (i / 16) (i % 16)) n ≡ set.len lost
counted zero lost below =
    let none : (p : ℕ × ℕ) → set.contains lost p ≡ set.contains nothing p = λ p. elim (cases_Bool (set.contains lost p)) [
      | inl there ↦ absurd (let l = (below p.0 p.1 there).1 in omega arith)
      | inr not_there ↦ not_there ∙ sym (set.contains-empty pair_cmp p)
    ] in
    sym (ap set.len (set.same_set pairs_total pairs_are_tied lost nothing none) ∙ set.len-empty pair_cmp)
counted (suc n) lost below =
    let here : ℕ × ℕ = (n / 16, n % 16) in
    let rest : Lost = set.remove lost here in
    let contains : (p : ℕ × ℕ) → set.contains rest p ≡ (not (eq_by_cmp pair_cmp p here) && set.contains lost p) = set.contains-remove pairs_total lost here in
    let under : (j f : ℕ) → lost_in rest j f ≡ true → (f < 16) × (16 * j + f < n) = λ j f h.
    let parts = and_parts (not (eq_by_cmp pair_cmp (j, f) here)) (set.contains lost (j, f)) (sym (contains (j, f)) ∙ h) in
    let l = below j f parts.1 in
    (l.0, not_the_last j f n l.0 l.1 parts.0) in
    let before : count_below (λ i. lost_in lost (i / 16) (i % 16)) n ≡ count_below (λ i. lost_in rest (i / 16) (i % 16)) n =
    count_same _ _ n (λ i l. sym (contains (i / 16, i % 16) ∙ ap (λ b. not b && set.contains lost (i / 16, i % 16)) (other_number i n l))) in
    last_one (set.contains lost here) _ _ (set.len lost) (at_least_one lost here) (before ∙ counted n rest under) (set.len-remove pairs_total lost here)
  where
    not_the_last : (j f n : ℕ) → f < 16 → 16 * j + f < suc n → not (eq_by_cmp pair_cmp (j, f) (n / 16, n % 16)) ≡ true → 16 * j + f < n
    not_the_last j f n l below other = grind (arith, common_steps)

-- ---- a value with nothing lost
is_there : (b : Bool) (x : List ℕ) → b ≡ false → is_none (cond b None (Some x)) ≡ false
is_there true x e = absurd (false≢true (sym e))
is_there false x e = refl

none_at : (s : Sealed) (b : List ℕ) → StandsFor s b nothing → (j f : ℕ) → lacks s j f ≡ false
none_at s b stands j f =
    elim (cases_Bool (lacks s j f)) [
      | inl lacking ↦
          let parts = and_parts (nat_lt j (length s.stripes)) _ lacking in
          let more = and_parts (nat_lt f (fragment_count s.code)) _ parts.1 in
          let l : j < length s.stripes = lt_of j _ parts.0 in
          let kept : absent_in s j f ≡ false = ap is_none (stands.fragments j f (let c = s.shaped.count in omega arith) (lt_of f _ more.0)) ∙ is_there (lost_in nothing j f) _ (set.contains-empty pair_cmp (j, f)) in
          absurd (false≢true (sym kept ∙ more.1))
      | inr not_lacking ↦ not_lacking
    ]

pub none_lacked : (s : Sealed) (b : List ℕ) → StandsFor s b nothing → lacked_count s ≡ 0
none_lacked s b stands = count_none _ (16 * length s.stripes) (λ i l. none_at s b stands (i / 16) (i % 16))

closed_if_whole : (code : Code) → has_open code (λ f. false) ≡ false
unfolding excess_of
closed_if_whole Wide = refl
closed_if_whole Small = refl

pub none_open : (s : Sealed) (b : List ℕ) → StandsFor s b nothing → open_count s ≡ 0
none_open s b stands = count_none _ (length s.stripes) (λ j l. (λ i. has_open s.code (λ f. none_at s b stands j f i)) ∙ closed_if_whole s.code)

-- ---- a value that represents a blob
module _ (w : ℕ) (s : Sealed) (blob : Blob) (is : Represents w s blob) (inside : IsLostInside w blob) where
  stripes_alike : stripe_count blob.code w (length blob.bytes) ≡ length s.stripes
  stripes_alike = sym (s.shaped.count ∙ (λ i. stripe_count (is.code i) (is.width i) (is.stands.length_is i)))

  lost_here : (j f : ℕ) → j < length s.stripes → f < fragment_count s.code → absent_in s j f ≡ lost_in blob.lost j f
  lost_here j f l h = same_lost w (subst (λ (n : ℕ). 1 ≤ n) is.width s.shaped.wide) s blob is j f (let c = s.shaped.count in omega arith) h

  pub lacks_alike : (j f : ℕ) → lost_in blob.lost j f ≡ lacks s j f
  lacks_alike j f =
      same_truth (lost_in blob.lost j f) (lacks s j f)
      (λ lost.
      let l = inside j f lost in
      let jl : j < length s.stripes = omega (arith, l.0, stripes_alike) in
      let fl : f < fragment_count s.code = omega (arith, l.1, ap fragment_count is.code) in
      both _ _ (is_lt j _ jl) (both _ _ (is_lt f _ fl) (lost_here j f jl fl ∙ lost)))
      (λ lacking.
      let parts = and_parts (nat_lt j (length s.stripes)) _ lacking in
      let more = and_parts (nat_lt f (fragment_count s.code)) _ parts.1 in
      sym (lost_here j f (lt_of j _ parts.0) (lt_of f _ more.0)) ∙ more.1)

  inside_count : (j f : ℕ) → lost_in blob.lost j f ≡ true → (f < 16) × (16 * j + f < 16 * length s.stripes)
  inside_count j f lost =
      let l = inside j f lost in
      let few = few_fragments blob.code in
      (omega (arith, l.1, few), omega (arith, l.0, l.1, few, stripes_alike))

  pub open_alike : open_stripes w blob ≡ open_count s
  open_alike =
      ap (count_below (λ j. has_open blob.code (lost_in blob.lost j))) stripes_alike
      ∙ count_same _ _ (length s.stripes) (λ j l. λ i. has_open (sym is.code i) (λ f. lacks_alike j f i))

  count_alike : set.len blob.lost ≡ lacked_count s
  count_alike =
      sym (counted (16 * length s.stripes) blob.lost inside_count)
      ∙ count_same _ _ (16 * length s.stripes) (λ i l. lacks_alike (i / 16) (i % 16))

  pub view_alike : view_of blob ≡ view_in s
  view_alike =
      λ i. record {
        version = sym is.version i;
        len = sym is.stands.length_is i;
        code = sym is.code i;
        lost = λ j f. lacks_alike j f i;
        count = count_alike i;
      }
