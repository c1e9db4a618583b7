-- One fragment taken out of a sealed value, or put back.
use Rattle.std.proofs.Common.{◌≡◌, ◌≢◌, ℕ, ◌+◌, ◌*◌, ◌/◌, ◌%◌, ◌<◌, ◌≤◌, Bool, true, false, ◌&&◌, ◌==◌, List, Option, None, Some, is_none, cond, length, refl, sym, ap, ◌∙◌, subst, inl, inr, arith}
use Rattle.std.specs.Prelude.{nat_le, nat_lt, ◌||◌}
use Rattle.std.specs.FinSet as set
use Rattle.std.proofs.lemmas.Bool.{cases_Bool, true≢false}
use Rattle.std.proofs.lemmas.Grind.{common_steps}
use Rattle.lrc_code.specs.Code.{fragment_count}
use Rattle.sealed.specs.declared.value.Sealed.{Sealed}
use Rattle.sealed.specs.Layout.{stripe_count}
use Rattle.sealed.specs.Stripes.{fragment_at}
use Rattle.sealed.specs.Sealed.{absent_in}
use Rattle.sealed.specs.Change.{IsChanged}
use Rattle.sealed.specs.Rebuilding.{IsFragmentOf}
use Rattle.sealed.proofs.Counting.{few_fragments}
use Rattle.sealed.proofs.Changing.{without_stands, with_stands}
use Rattle.lrc_code.specs.Count.{count_below}
use Rattle.history.specs.Views.{no_such}
use Rattle.book.specs.Lacking.{lacks, lacked_count, view_in}
use Rattle.book.specs.Losing.{IsWith, IsRestored}
use Rattle.book.specs.Totals.{has_open, open_at, open_count}
use Rattle.history.proofs.Keeping.{is_lt}
use Rattle.book.proofs.Lacking.{count_bound, count_more, count_other}

-- ---- what the changed value lacks
module _ (s t : Sealed) (j f : ℕ) (x : Option (List ℕ)) (changed : IsChanged s j f x t) (below : j < stripe_count s.code s.width s.len) (inside : f < fragment_count s.code) where
  as_many : length t.stripes ≡ length s.stripes
  as_many = t.shaped.count ∙ (λ i. stripe_count (changed.code i) (changed.width i) (changed.len i)) ∙ sym s.shaped.count

  there : j < length s.stripes
  there = let c = s.shaped.count in omega arith

  absent_after : (i g : ℕ) (b : Bool) → ((i == j) && (g == f)) ≡ b → absent_in t i g ≡ cond b (is_none x) (absent_in s i g)
  absent_after i g true e = ap is_none (changed.fragments i g ∙ ap (λ b. cond b x (fragment_at s.stripes i g)) e)
  absent_after i g false e = ap is_none (changed.fragments i g ∙ ap (λ b. cond b x (fragment_at s.stripes i g)) e)

  here_is : (a b : ℕ) → ((a == a) && (b == b)) ≡ true
  here_is a b = grind (arith, common_steps)

  elsewhere : (k : ℕ) → k ≢ 16 * j + f → ((k / 16 == j) && (k % 16 == f)) ≡ false
  elsewhere k other =
      elim (cases_Bool ((k / 16 == j) && (k % 16 == f))) [
        | inl same ↦ absurd (other (number k j f same))
        | inr apart ↦ apart
      ]
    where
      number : (k j f : ℕ) → ((k / 16 == j) && (k % 16 == f)) ≡ true → k ≡ 16 * j + f
      number k j f e = grind (arith, common_steps)

  same_elsewhere : (k : ℕ) → k ≢ 16 * j + f → lacks t (k / 16) (k % 16) ≡ lacks s (k / 16) (k % 16)
  same_elsewhere k other =
      λ i. nat_lt (k / 16) (as_many i) && (nat_lt (k % 16) (fragment_count (changed.code i)) && absent_after (k / 16) (k % 16) false (elsewhere k other) i)

  at_itself : (v : Sealed) → length v.stripes ≡ length s.stripes → v.code ≡ s.code → lacks v ((16 * j + f) / 16) ((16 * j + f) % 16) ≡ absent_in v j f
  at_itself v many code =
      let few = few_fragments s.code in
      let quotient : (16 * j + f) / 16 ≡ j = omega arith in
      let rest : (16 * j + f) % 16 ≡ f = omega arith in
      (λ i. lacks v (quotient i) (rest i))
      ∙ (λ i. nat_lt j (many i) && (nat_lt f (fragment_count (code i)) && absent_in v j f))
      ∙ (λ i. is_lt j (length s.stripes) there i && (is_lt f (fragment_count s.code) inside i && absent_in v j f))

  counted_here : 16 * j + f < 16 * length s.stripes
  counted_here = let few = few_fragments s.code in omega (arith, there, inside, few)

  pub one_more : absent_in s j f ≡ false → x ≡ None → lacked_count t ≡ lacked_count s + 1
  one_more present none =
      ap (λ n. count_below (λ i. lacks t (i / 16) (i % 16)) (16 * n)) as_many
      ∙ count_more (λ i. lacks s (i / 16) (i % 16)) (λ i. lacks t (i / 16) (i % 16)) (16 * j + f) (16 * length s.stripes) counted_here
      (at_itself s refl refl ∙ present)
      (at_itself t as_many changed.code ∙ absent_after j f true (here_is j f) ∙ ap is_none none)
      (λ k l other. sym (same_elsewhere k other))

  pub one_less : absent_in s j f ≡ true → is_none x ≡ false → lacked_count s ≡ lacked_count t + 1
  one_less gone some =
      count_more (λ i. lacks t (i / 16) (i % 16)) (λ i. lacks s (i / 16) (i % 16)) (16 * j + f) (16 * length s.stripes) counted_here
      (at_itself t as_many changed.code ∙ absent_after j f true (here_is j f) ∙ some)
      (at_itself s refl refl ∙ gone)
      (λ k l other. same_elsewhere k other)
      ∙ ap (λ n. count_below (λ i. lacks t (i / 16) (i % 16)) (16 * n) + 1) (sym as_many)

  -- a change in a stripe changes no other
  apart : (i g : ℕ) → i ≢ j → ((i == j) && (g == f)) ≡ false
  apart i g other = grind (arith, common_steps, other)

  other_stripe : (i : ℕ) → i ≢ j → has_open s.code (lacks s i) ≡ has_open t.code (lacks t i)
  other_stripe i other =
      let same : (g : ℕ) → lacks s i g ≡ lacks t i g = λ g. λ k. nat_lt i (sym as_many k) && (nat_lt g (fragment_count (sym changed.code k)) && sym (absent_after i g false (apart i g other)) k) in
      λ k. has_open (sym changed.code k) (λ g. same g k)

  pub open_changed : open_count t + open_at s j ≡ open_count s + open_at t j
  open_changed =
      ap (λ n. count_below (λ i. has_open t.code (lacks t i)) n + open_at s j) as_many
      ∙ count_other (λ i. has_open s.code (lacks s i)) (λ i. has_open t.code (lacks t i)) j (length s.stripes) there (λ i l other. other_stripe i other)

pub few_open : (s : Sealed) → open_count s ≤ 4096
few_open s = (let few : length s.stripes ≤ 4096 = s.shaped.few in let bound = count_bound (λ j. has_open s.code (lacks s j)) (length s.stripes) in omega arith)

one_open : (b : Bool) → cond b 1 0 ≤ 1
one_open true = omega arith
one_open false = omega arith

pub recount : (s t : Sealed) (j f n before after : ℕ) (x : Option (List ℕ)) → n ≡ open_count s → IsChanged s j f x t → j < stripe_count s.code s.width s.len → f < fragment_count s.code
    → before ≡ open_at s j → after ≡ open_at t j → (n + after ≡ open_count t + before) × (n + after ≤ 4097)
recount s t j f n before after x count changed below inside was is =
    let moved : open_count t + open_at s j ≡ open_count s + open_at t j = open_changed s t j f x changed below inside in
    (omega (arith, count, moved, was, is), omega (arith, count, moved, is, few_open s, one_open (has_open t.code (lacks t j))))

pub few_lacked : (s : Sealed) → lacked_count s ≤ 65536
few_lacked s =
    let few : length s.stripes ≤ 4096 = s.shaped.few in
    let bound = count_bound (λ i. lacks s (i / 16) (i % 16)) (16 * length s.stripes) in
    omega arith

-- ---- the value with its number
pub seen_changed : {r s t : Sealed} {j f : ℕ} {x : Option (List ℕ)} → r ≡ s → IsChanged r j f x t → IsChanged s j f x t
seen_changed {t = t} {j = j} {f = f} {x = x} same changed = subst (λ (v : Sealed). IsChanged v j f x t) same changed

pub with_one_more : (s t : Sealed) (j f n : ℕ) → n ≡ lacked_count s → IsChanged s j f None t → j < stripe_count s.code s.width s.len → f < fragment_count s.code → absent_in s j f ≡ false
    → n + 1 ≡ lacked_count t
with_one_more s t j f n count changed below inside present = omega (arith, count, one_more s t j f None changed below inside present refl)

pub with_one_less : (s t : Sealed) (j f n : ℕ) (x : List ℕ) → n ≡ lacked_count s → IsChanged s j f (Some x) t → j < stripe_count s.code s.width s.len → f < fragment_count s.code → absent_in s j f ≡ true
    → n ≡ lacked_count t + 1
with_one_less s t j f n x count changed below inside gone = count ∙ one_less s t j f (Some x) changed below inside gone refl

pub is_without : (s t : Sealed) (j f : ℕ) → IsChanged s j f None t → IsWith (λ lost. set.insert lost (j, f)) s t
is_without s t j f changed =
    record { version = changed.version; len = changed.len; width = changed.width; code = changed.code; stands = λ b lost stands. without_stands s t b lost j f changed stands }

pub is_with : (s t : Sealed) (j f : ℕ) (x : List ℕ) → IsChanged s j f (Some x) t → IsFragmentOf s j f x → IsWith (λ lost. set.remove lost (j, f)) s t
is_with s t j f x changed own =
    record { version = changed.version; len = changed.len; width = changed.width; code = changed.code; stands = λ b lost stands. with_stands s t b lost j f x changed stands (own b lost stands) }

pub is_restored : (s t : Sealed) (j f : ℕ) (x : List ℕ) → IsChanged s j f (Some x) t → IsRestored j f x s t
is_restored s t j f x changed =
    record { version = changed.version; len = changed.len; width = changed.width; code = changed.code; stands = λ b lost own stands. with_stands s t b lost j f x changed stands own }

-- ---- what is there, and what is absent
pub fragment_there : (s : Sealed) (j f : ℕ) → no_such s.width (view_in s) j f ≡ false → (j < stripe_count s.code s.width s.len) × (f < fragment_count s.code)
fragment_there s j f there =
    let none = or_false (nat_le (stripe_count s.code s.width s.len) j) (nat_le (fragment_count s.code) f) there in
    (below_if (stripe_count s.code s.width s.len) j none.0, below_if (fragment_count s.code) f none.1)
  where
    or_false : (a b : Bool) → (a || b) ≡ false → (a ≡ false) × (b ≡ false)
    or_false true b e = absurd (true≢false e)
    or_false false b e = (refl, e)

    below_if : (n i : ℕ) → nat_le n i ≡ false → i < n
    below_if n i e = grind (arith, e)

pub lacks_here : (s : Sealed) (j f : ℕ) → j < stripe_count s.code s.width s.len → f < fragment_count s.code → lacks s j f ≡ absent_in s j f
lacks_here s j f below inside =
    let c : length s.stripes ≡ stripe_count s.code s.width s.len = s.shaped.count in
    λ i. is_lt j (length s.stripes) (omega arith) i && (is_lt f (fragment_count s.code) inside i && absent_in s j f)
