-- Each step keeps the rule of the tickets.
use Rattle.std.proofs.Common.{◌≡◌, ◌≢◌, ℕ, ◌+◌, ◌%◌, ◌^◌, ◌<◌, List, [], ◌∷◌, length, set, get_or, refl, ap, sym, subst, ◌∙◌, arith, length-append, length-set, get_or-set_same}
use mathlib.Core.Option.{some, none}
use lib.ListN.{get_elem?}
use lib.Seq.{set-get_or}
use Rattle.atomic_table.specs.Table.{State, Me, step, keeps, stepped, Allows, Splits, Joins}
use Rattle.atomic_table.proofs.Lists.{set_again, set_here}
use Rattle.mender.specs.declared.view.DrawerView.{DrawerView}
use Rattle.gate.proofs.Lists.{at_inside, sum_at, sum-snoc, one_le, two_le, sum_alone, times-append, times-one}
use Rattle.mender.specs.Drawn.{once_below}
use Rattle.mender.specs.Rule.{Nothing, spent, draws_of, allotment, times_in, Invariant, Known, drawn_more, Drew, Looked, kept_half, given_half, both}
use Rattle.mender.proofs.Counts.{sum_le, none_drawn, all_below, once_below-suc, once_below-le, once_below-out}

St : Type 0
St = State Nothing DrawerView

-- a drawer whose share is the whole has drawn all that was drawn
counts_all : (s : State Nothing DrawerView) (k : Invariant s) (id : ℕ) (v : DrawerView) → get_elem? s.views id ≡ some v → allotment v ≡ 2 ^ 40 → get_or s.words 0 0 ≡ length v.drawn
counts_all s k id v at full =
    let shares = k.shares in
    k.count ∙ sum_alone draws_of s.views id v at (λ j u other there. let le = two_le allotment s.views id j v u (λ e. other (sym e)) at there in omega arith)

-- what the rule says of one drawer
pub known : (s : State Nothing DrawerView) (k : Invariant s) (id : ℕ) (v : DrawerView) → get_elem? s.views id ≡ some v → Known v
known s k id v at = record {
  once = λ n.
      let mine = one_le (times_in n) s.views id v at in
      let all = k.once n in
      let le = once_below-le n (get_or s.words 0 0) in
      omega arith;
  few = let mine = one_le allotment s.views id v at in let shares = k.shares in omega arith;
  whole = λ full n.
      let shares = k.shares in
      let idle : (j : ℕ) (u : DrawerView) → j ≢ id → get_elem? s.views j ≡ some u → length u.drawn ≡ 0 =
      λ j u other there. let le = two_le allotment s.views id j v u (λ e. other (sym e)) at there in omega arith in
      let sum = sum_alone (times_in n) s.views id v at (λ j u other there. none_drawn n u.drawn (idle j u other there)) in
      sym sum ∙ (k.once n ∙ ap (once_below n) (counts_all s k id v at full));
}

pub draws : (slots id : ℕ) (me : Me Nothing DrawerView) → 0 < me.0.allowance → Allows Invariant slots id me 0 (λ n. (n + 1) % 2 ^ 64) (Drew (step slots 0 1 0 none) me)
draws slots id me some_left s k long at small =
    let v : DrawerView = me.0 in
    let n : ℕ = get_or s.words 0 0 in
    let w : DrawerView = drawn_more v n in
    let one_word = k.one_word in
    let count = k.count in
    let shares = k.shares in
    let fewer = sum_le draws_of allotment (λ u. omega arith) s.views in
    let next : (n + 1) % 2 ^ 64 ≡ n + 1 = omega arith in
    let longer : length w.drawn ≡ length v.drawn + 1 = omega (arith, length-append v.drawn (n ∷ [])) in
    let word : get_or (set s.words 0 ((n + 1) % 2 ^ 64)) 0 0 ≡ n + 1 = get_or-set_same s.words 0 ((n + 1) % 2 ^ 64) 0 (omega arith) ∙ next in
    let after : Invariant (stepped s 0 ((n + 1) % 2 ^ 64) id me.1 w keeps) = record {
      one_word = length-set s.words 0 ((n + 1) % 2 ^ 64) ∙ k.one_word;
      count = let sum = sum_at draws_of s.views id v w at in omega arith;
      once = λ p.
          let sum = sum_at (times_in p) s.views id v w at in
          let all = k.once p in
          let more = times-append p v.drawn (n ∷ []) in
          let one = times-one p n in
          let below = once_below-suc p n in
          let now : once_below p (get_or (set s.words 0 ((n + 1) % 2 ^ 64)) 0 0) ≡ once_below p (n + 1) = ap (once_below p) word in
          omega arith;
      shares = let sum = sum_at allotment s.views id v w at in omega arith;
    } in (
      w,
      keeps,
      tt,
      after,
      (
        refl,
        (let mine = one_le (times_in n) s.views id v at in let all = k.once n in let none_yet = once_below-out n n (omega arith) in omega arith),
        known (stepped s 0 ((n + 1) % 2 ^ 64) id me.1 w keeps) after id w (set_here s.views id w (at_inside s.views id v at)),
        all_below n v.drawn (λ m le. let mine = one_le (times_in m) s.views id v at in let all = k.once m in let none_yet = once_below-out m n le in omega arith),
        (λ full. counts_all s k id v at full),
      ),
    )

pub splits : (id : ℕ) (v : DrawerView) → Splits Invariant id v (kept_half v) (given_half v)
splits id v s k at =
    let left : DrawerView = kept_half v in
    let right : DrawerView = given_half v in
    let views : List DrawerView = set s.views id left in record {
      one_word = k.one_word;
      count = let sum = sum_at draws_of s.views id v left at in let more = sum-snoc draws_of views right in let count = k.count in omega arith;
      once = λ n. let sum = sum_at (times_in n) s.views id v left at in let more = sum-snoc (times_in n) views right in let all = k.once n in omega arith;
      shares = let sum = sum_at allotment s.views id v left at in let more = sum-snoc allotment views right in let shares = k.shares in omega arith;
    }

pub joins : (id : ℕ) (v : DrawerView) (other : ℕ) (w : DrawerView) → Joins Invariant id v other w (both v w) spent
joins id v other w s k at apart there =
    let all : DrawerView = both v w in
    let views : List DrawerView = set s.views id all in
    let longer = length-append v.drawn w.drawn in record {
      one_word = k.one_word;
      count =
          let sum = sum_at draws_of s.views id v all at in
          let more = sum_at draws_of views other w spent there in
          let count = k.count in
          omega arith;
      once = λ n.
          let sum = sum_at (times_in n) s.views id v all at in
          let more = sum_at (times_in n) views other w spent there in
          let once = k.once n in
          let two = times-append n v.drawn w.drawn in
          omega arith;
      shares =
          let sum = sum_at allotment s.views id v all at in
          let more = sum_at allotment views other w spent there in
          let shares = k.shares in
          omega arith;
    }

pub looks : (slots id : ℕ) (me : Me Nothing DrawerView) → Allows Invariant slots id me 0 (λ n. n) (Looked (step slots 0 0 0 none) me)
looks slots id me s k long at small =
    let words : set s.words 0 (get_or s.words 0 0) ≡ s.words = set-get_or s.words 0 0 in
    let views : set s.views id me.0 ≡ s.views = set_again s.views id me.0 at in (
      me.0,
      keeps,
      tt,
      subst (λ (x : List ℕ × List DrawerView). Invariant record { words = x.0; homes = s.homes; views = x.1 }) (λ i. (sym words i, sym views i)) k,
      (refl, known s k id me.0 at),
    )

-- who keeps the larger half knows as much
pub known_kept : (v : DrawerView) → Known v → Known (kept_half v)
known_kept v k = record {
  once = k.once;
  few = let few = k.few in omega arith;
  whole = λ full. let few = k.few in k.whole (omega arith);
}
