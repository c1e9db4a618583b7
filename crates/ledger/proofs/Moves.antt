-- Each step keeps the rule of a ledger.
use Rattle.std.proofs.Common.{◌≡◌, ◌≢◌, ◌⊎◌, ℕ, zero, suc, ◌+◌, ◌<◌, ◌≤◌, ◌==◌, ne_eqb, eq-eqb, cond, Bool, List, [], ◌∷◌, ◌++◌, length, set, get_or, sum_by, count_by, refl, ap, sym, subst, ◌∙◌, inl, inr, ⊎_elim, arith, length-append, le_refl}
use mathlib.Core.List.{IsPrefix}
use mathlib.Core.Option.{none, some, some-injective, some-ne-none}
use mathlib.Core.Logic.{dite}
use native.Mathlib.Decide.{ℕ_discrete, dec_le}
use Rattle.std.proofs.lemmas.List.Sums.{sum_by-append, sum_by-cons}
use lib.ListN.{get_elem?}
use Rattle.atomic_table.specs.Table.{State, Me, step, keeps as keeps_all, stepped, Allows, Splits, Joins, Valid, Act, carried_after}
use Rattle.atomic_table.proofs.Lists.{at_set, at_snoc, set_here, set_else}
use Rattle.gate.proofs.Lists.{prefix_self, prefix_trans, prefix_shorter, prefix_whole, prefix_length, at_inside, sum_at, sum_same, sum_alone, sum-snoc, one_le, two_le, times-append}
use Rattle.ledger.specs.declared.view.ShardAct.{ShardAct}
use Rattle.ledger.specs.declared.view.ShardActs.{ShardActs}
use Rattle.ledger.specs.declared.view.Shown.{Shown}
use Rattle.ledger.specs.declared.view.View.{View}
use Rattle.ledger.specs.Acts.{shard_acts, as_shard_acts, acts_at, indices, times, once_below, HasAll}
use Rattle.ledger.specs.Rule.{Measure, index, rooms, keeper, shown, nothing, settled, empty_from, opening, spent, IsBeginning, HaveAllActs, IsIdle, Fits, weigh, total_of, IsLedger, Invariant, Recorded, Observed, Settled, kept_part, given_part, noted_part, first_of, rest_of, less_one, one_keeper, heard_by, keeps}
use Rattle.ledger.proofs.Lists.{acts_at-more, acts_at-same, length-acts, keepers-split, times-indices, once_below-le, once_below-past, once_below-here}

module _ {A : Type 0} (legal : ℕ → List A → Type 0) (count : ℕ) where
  fits_nothing : (all : List (ShardAct A)) → IsBeginning all nothing
  fits_nothing all = ((all, refl), λ p le. refl)

  fits_set : (all : List (ShardAct A)) (views : List (View A)) (id : ℕ) (w : View A) → ((j : ℕ) (v : View A) → j ≢ id → get_elem? views j ≡ some v → Fits all v) → Fits all w
      → (j : ℕ) (v : View A) → get_elem? (set views id w) j ≡ some v → Fits all v
  fits_set all views id w others mine j v e =
      ⊎_elim
      (λ (t : (j ≡ id) × (w ≡ v)). subst (Fits all) t.1 mine)
      (λ (t : (j ≢ id) × (get_elem? views j ≡ some v)). others j v t.0 t.1)
      (at_set views id j w v e)

  fits_snoc : (all : List (ShardAct A)) (views : List (View A)) (w : View A) → ((j : ℕ) (v : View A) → get_elem? views j ≡ some v → Fits all v) → Fits all w
      → (j : ℕ) (v : View A) → get_elem? (views ++ w ∷ []) j ≡ some v → Fits all v
  fits_snoc all views w others mine j v e =
      ⊎_elim
      (λ (t : get_elem? views j ≡ some v). others j v t)
      (λ (t : w ≡ v). subst (Fits all) t mine)
      (at_snoc views w v j e)

  -- a view is replaced by one of the same weights
  changes : (views : List (View A)) (k : IsLedger legal count views) (id : ℕ) (v w : View A) → get_elem? views id ≡ some v → Fits k.all w → ((m : Measure) → weigh m w ≡ weigh m v) → IsLedger legal count (set views id w)
  changes views k id v w at fits same = record {
    all = k.all;
    lawful = k.lawful;
    each = fits_set k.all views id w (λ j u _ e. k.each j u e) fits;
    sums = λ m. sum_same (weigh m) views id v w at (same m) ∙ k.sums m;
  }

  -- a view is cut in two whose weights are its own
  cuts : {S : Type 0} (id : ℕ) (v left right : View A)
      → ((all : List (ShardAct A)) → Fits all v → Fits all left × Fits all right)
      → ((m : Measure) → weigh m left + weigh m right ≡ weigh m v)
      → Splits (Invariant {A = A} {S = S} legal count) id v left right
  cuts id v left right fits weights s k at =
      let both = fits k.all (k.each id v at) in
      let views : List (View A) = set s.views id left in record {
        all = k.all;
        lawful = k.lawful;
        each = fits_snoc k.all views right (fits_set k.all s.views id left (λ j u _ e. k.each j u e) both.0) both.1;
        sums = λ m.
            let a = sum_at (weigh m) s.views id v left at in
            let b = sum-snoc (weigh m) views right in
            let w = weights m in
            let t = k.sums m in
            omega arith;
      }

  -- two views are made one, whose weights are theirs
  meets : {S : Type 0} (id : ℕ) (v : View A) (other : ℕ) (w both left : View A)
      → ((all : List (ShardAct A)) → Fits all v → Fits all w → Fits all both × Fits all left)
      → ((m : Measure) → weigh m both + weigh m left ≡ weigh m v + weigh m w)
      → Joins (Invariant {A = A} {S = S} legal count) id v other w both left
  meets id v other w both left fits weights s k at apart there =
      let views : List (View A) = set s.views id both in
      let there' : get_elem? s.views other ≡ some w = sym (set_else s.views id other both apart) ∙ there in
      let fit = fits k.all (k.each id v at) (k.each other w there') in record {
        all = k.all;
        lawful = k.lawful;
        each = fits_set k.all views other left (λ j u _ e. fits_set k.all s.views id both (λ i x _ h. k.each i x h) fit.0 j u e) fit.1;
        sums = λ m.
            let a = sum_at (weigh m) s.views id v both at in
            let b = sum_at (weigh m) views other w left there in
            let q = weights m in
            let t = k.sums m in
            omega arith;
      }

  -- a room is given away
  pub splits : {S : Type 0} (id : ℕ) (v : View A) → v.heard ≡ nothing → 1 < v.room → Splits (Invariant {A = A} {S = S} legal count) id v (kept_part v) (given_part v)
  splits id v quiet rooms_left = cuts id v (kept_part v) (given_part v)
      (λ all f. (
        record { shows = f.shows; hears = fits_nothing all; idle = λ none_left. absurd (omega arith); whole = f.whole },
        record { shows = (f.shows.0, λ p le. refl); hears = fits_nothing all; idle = λ none_left. absurd (omega arith); whole = tt },
      ))
      weights
    where
      weights : (m : Measure) → weigh m (kept_part v) + weigh m (given_part v) ≡ weigh m v
      weights (index p) = let unheard : times p v.heard.own ≡ 0 = ap (λ (h : Shown A). times p h.own) quiet in omega arith
      weights rooms = omega arith
      weights (keeper k) = omega arith

  -- a receipt is made of a view, which stays
  pub notes : {S : Type 0} (id : ℕ) (v : View A) → Splits (Invariant {A = A} {S = S} legal count) id v v (noted_part v)
  notes id v = cuts id v v (noted_part v)
      (λ all f. (
        f,
        record { shows = (f.shows.0, λ p le. refl); hears = fits_nothing all; idle = λ _. record { shown = refl; heard = refl }; whole = tt },
      ))
      weights
    where
      weights : (m : Measure) → weigh m v + weigh m (noted_part v) ≡ weigh m v
      weights (index p) = omega arith
      weights rooms = omega arith
      weights (keeper k) = omega arith

  whole_rest : (all : List (ShardAct A)) (kept : List (ShardActs A)) → HaveAllActs all kept → HaveAllActs all (rest_of kept)
  whole_rest all [] w = tt
  whole_rest all (d ∷ ds) w = w.1

  whole_first : (all : List (ShardAct A)) (kept : List (ShardActs A)) → HaveAllActs all kept → HaveAllActs all (first_of kept)
  whole_first all [] w = tt
  whole_first all (d ∷ ds) w = (w.0, tt)

  whole_both : (all : List (ShardAct A)) (one other : List (ShardActs A)) → HaveAllActs all one → HaveAllActs all other → HaveAllActs all (one ++ other)
  whole_both all [] other w x = x
  whole_both all (d ∷ ds) other w x = (w.0, whole_both all ds other w.1 x)

  -- a keeper is split off
  pub parts : {S : Type 0} (id : ℕ) (v : View A) → v.heard ≡ nothing → 0 < v.room → Splits (Invariant {A = A} {S = S} legal count) id v (less_one v) (one_keeper v)
  parts id v quiet some_room = cuts id v (less_one v) (one_keeper v)
      (λ all f. (
        record { shows = f.shows; hears = fits_nothing all; idle = λ none_left. absurd (omega arith); whole = whole_rest all v.kept f.whole },
        record { shows = fits_nothing all; hears = fits_nothing all; idle = λ _. record { shown = refl; heard = refl }; whole = whole_first all v.kept f.whole },
      ))
      weights
    where
      weights : (m : Measure) → weigh m (less_one v) + weigh m (one_keeper v) ≡ weigh m v
      weights (index p) = let unheard : times p v.heard.own ≡ 0 = ap (λ (h : Shown A). times p h.own) quiet in omega arith
      weights rooms = omega arith
      weights (keeper k) = keepers-split k v.kept

  -- a seat takes in another one: a seat, a receipt or a keeper
  pub joins : {S : Type 0} (id : ℕ) (v : View A) (other : ℕ) (w : View A) → v.heard ≡ nothing → 0 < v.room → w.heard ≡ nothing → Joins (Invariant {A = A} {S = S} legal count) id v other w (heard_by v w) spent
  joins id v other w quiet some_room quiet' = meets id v other w (heard_by v w) spent
      (λ all f g. (
        record { shows = f.shows; hears = g.shows; idle = λ none_left. absurd (omega arith); whole = whole_both all v.kept w.kept f.whole g.whole },
        record { shows = fits_nothing all; hears = fits_nothing all; idle = λ _. record { shown = refl; heard = refl }; whole = tt },
      ))
      weights
    where
      weights : (m : Measure) → weigh m (heard_by v w) + weigh m (spent {A = A}) ≡ weigh m v + weigh m w
      weights (index p) =
          let unheard : times p v.heard.own ≡ 0 = ap (λ (h : Shown A). times p h.own) quiet in
          let unheard' : times p w.heard.own ≡ 0 = ap (λ (h : Shown A). times p h.own) quiet' in
          omega arith
      weights rooms = omega arith
      weights (keeper k) = omega (arith, sum_by-append (λ (x : ShardActs A). cond {A = ℕ} (x.shard == k) 1 0) v.kept w.kept)

  idle_weight : (v : View A) → IsIdle v → (p : ℕ) → weigh (index p) v ≡ 0
  idle_weight v i p =
      let one : times p v.shown.own ≡ 0 = ap (times p) i.shown in
      let other : times p v.heard.own ≡ 0 = ap (times p) i.heard in
      omega arith

  -- with all rooms a seat has all indices of the list
  all_own : (views : List (View A)) (k : IsLedger legal count views) (id : ℕ) (v : View A) → get_elem? views id ≡ some v → v.heard ≡ nothing → v.room ≡ 64 → HasAll k.all v.shown.own
  all_own views k id v at quiet full p =
      let idle : (j : ℕ) (u : View A) → j ≢ id → get_elem? views j ≡ some u → weigh (index p) u ≡ 0 =
      λ j u apart there. let le = two_le (weigh rooms) views id j v u (λ e. apart (sym e)) at there in let t = k.sums rooms in idle_weight u ((k.each j u there).idle (omega arith)) p in
      let alone = sum_alone (weigh (index p)) views id v at idle in
      let unheard : times p v.heard.own ≡ 0 = ap (λ (h : Shown A). times p h.own) quiet in
      let t = k.sums (index p) in
      omega arith

  -- and has seen it whole
  all_seen : (views : List (View A)) (k : IsLedger legal count views) (id : ℕ) (v : View A) → get_elem? views id ≡ some v → v.heard ≡ nothing → v.room ≡ 64 → v.shown.list ≡ k.all
  all_seen views k id v at quiet full =
      let mine = k.each id v at in
      prefix_whole v.shown.list k.all mine.shows.0 (dite (dec_le (length k.all) (length v.shown.list)) (λ le. le)
      (λ longer. absurd (
      let n : ℕ = length v.shown.list in
      let one = once_below-here (length k.all) n (omega arith) in
      let none_there = mine.shows.1 n (le_refl n) in
      let own = all_own views k id v at quiet full n in
      omega arith
      )))

  all_rooms : (views : List (View A)) (k : IsLedger legal count views) (id : ℕ) (v : View A) → get_elem? views id ≡ some v → v.heard ≡ nothing → v.room ≡ 64 → HasAll v.shown.list v.shown.own
  all_rooms views k id v at quiet full =
      subst (λ (l : List (ShardAct A)). HasAll l v.shown.own) (sym (all_seen views k id v at quiet full)) (all_own views k id v at quiet full)

  -- more indices, from the end on
  within_more : (own : List ℕ) (n m p : ℕ) → times p own ≡ 0 → n + m ≤ p → times p (own ++ indices n m) ≡ 0
  within_more own n m p none_there past =
      let more = times-indices n m p in
      let low = once_below-past n p (omega arith) in
      let high = once_below-past (n + m) p past in
      let both = times-append p own (indices n m) in
      omega arith

  -- a step that changes a view and nothing else
  steps : {S : Type 0} (s : State S (View A)) (id : ℕ) (me : Me S (View A)) (w : View A) → IsLedger legal count (set s.views id w) → (then : ℕ → Me S (View A) → Type 0) → then (get_or s.words 0 0) (w, me.1)
      → (w : View A) × (a : Act S) × Valid s.homes me.1 a × Invariant {A = A} {S = S} legal count (stepped s 0 (get_or s.words 0 0) id me.1 w a) × then (get_or s.words 0 0) (w, carried_after me.1 a)
  steps s id me w now then told = (w, keeps_all, tt, now, told)

  -- a seat puts together what it heard and what it shows
  settles_at : {S : Type 0} (s : State S (View A)) (k : IsLedger legal count s.views) (id : ℕ) (me : Me S (View A)) (list : List (ShardAct A)) → get_elem? s.views id ≡ some me.0 → 0 < me.0.room
      → (list ≡ me.0.shown.list) ⊎ (list ≡ me.0.heard.list) → IsPrefix me.0.shown.list list → IsPrefix me.0.heard.list list → IsPrefix list k.all
      → (w : View A) × (a : Act S) × Valid s.homes me.1 a × Invariant {A = A} {S = S} legal count (stepped s 0 (get_or s.words 0 0) id me.1 w a) × Settled {A = A} {S = S} (step 0 0 0 0 none) me (get_or s.words 0 0) (w, carried_after me.1 a)
  settles_at {S} s k id me list at some_room one shows hears below =
      let v : View A = me.0 in
      let w : View A = settled (shown list (v.shown.own ++ v.heard.own)) v.room v.kept in
      let mine = k.each id v at in
      let now : IsLedger legal count (set s.views id w) = changes s.views k id v w at
      record {
        shows = (
          below,
          λ p le.
              let a = mine.shows.1 p (let l = prefix_length v.shown.list list shows in omega arith) in
              let b = mine.hears.1 p (let l = prefix_length v.heard.list list hears in omega arith) in
              let both = times-append p v.shown.own v.heard.own in
              omega arith,
        );
        hears = fits_nothing k.all;
        idle = λ none_left. absurd (omega arith);
        whole = mine.whole;
      }
      (weights v list) in
      steps s id me w now (λ found m'. Settled {A = A} {S = S} (step 0 0 0 0 none) me found m') (
        list,
        refl,
        one,
        shows,
        hears,
        (λ p.
            let most = one_le (weigh (index p)) s.views id v at in
            let t = k.sums (index p) in
            let le = once_below-le (length k.all) p in
            omega arith),
        (let most = one_le (weigh rooms) s.views id v at in let t = k.sums rooms in omega arith),
        (λ full. all_rooms (set s.views id w) now id w (set_here s.views id w (at_inside s.views id v at)) refl full),
      )
    where
      weights : (v : View A) (list : List (ShardAct A)) (m : Measure) → weigh m (settled (shown list (v.shown.own ++ v.heard.own)) v.room v.kept) ≡ weigh m v
      weights v list (index p) = let both = times-append p v.shown.own v.heard.own in omega arith
      weights v list rooms = refl
      weights v list (keeper k) = refl

  pub settles : {S : Type 0} (slots id : ℕ) (me : Me S (View A)) → 0 < me.0.room → Allows (Invariant {A = A} {S = S} legal count) slots id me 0 (λ n. n) (Settled {A = A} {S = S} (step slots 0 0 0 none) me)
  settles slots id me some_room s k long at small =
      let v : View A = me.0 in
      let mine = k.each id v at in dite (dec_le (length v.shown.list) (length v.heard.list))
      (λ le. settles_at s k id me v.heard.list at some_room (inr refl) (prefix_shorter v.shown.list v.heard.list k.all mine.shows.0 mine.hears.0 le) (prefix_self v.heard.list) mine.hears.0)
      (λ longer. settles_at s k id me v.shown.list at some_room (inl refl) (prefix_self v.shown.list) (prefix_shorter v.heard.list v.shown.list k.all mine.hears.0 mine.shows.0 (omega arith)) mine.shows.0)

  -- a seat sees the list whole
  pub observes : {S : Type 0} (slots id : ℕ) (me : Me S (View A)) (part : ShardActs A) → me.0.heard ≡ nothing → me.0.kept ≡ part ∷ [] → 0 < me.0.room → Allows (Invariant {A = A} {S = S} legal count) slots id me 0 (λ n. n) (Observed {A = A} {S = S} legal (step slots 0 0 0 none) me)
  observes {S} slots id me part quiet keeps_it some_room s k long at small =
      let v : View A = me.0 in
      let w : View A = settled (shown k.all v.shown.own) v.room (part ∷ []) in
      let mine = k.each id v at in
      let whole = subst (HaveAllActs k.all) keeps_it mine.whole in
      let now : IsLedger legal count (set s.views id w) = changes s.views k id v w at
      record {
        shows = (prefix_self k.all, λ p le. mine.shows.1 p (let l = prefix_length v.shown.list k.all mine.shows.0 in omega arith));
        hears = fits_nothing k.all;
        idle = λ none_left. absurd (omega arith);
        whole = whole;
      }
      (weights k.all v keeps_it quiet) in
      steps s id me w now (λ found m'. Observed {A = A} {S = S} legal (step slots 0 0 0 none) me found m') (
        part,
        k.all,
        keeps_it,
        mine.shows.0,
        whole.0,
        k.lawful,
        (λ full. (sym (all_seen s.views k id v at quiet full), all_own s.views k id v at quiet full)),
        refl,
      )
    where
      weights : (all : List (ShardAct A)) (v : View A) → v.kept ≡ part ∷ [] → v.heard ≡ nothing → (m : Measure) → weigh m (settled (shown all v.shown.own) v.room (part ∷ [])) ≡ weigh m v
      weights all v e h (index p) = let unheard : times p v.heard.own ≡ 0 = ap (λ (x : Shown A). times p x.own) h in omega arith
      weights all v e h rooms = refl
      weights all v e h (keeper j) = sym (ap (λ (l : List (ShardActs A)). count_by (λ (x : ShardActs A). x.shard == j) l) e)

  -- acts of another shard leave those whole that were
  whole_more : (all : List (ShardAct A)) (k : ℕ) (acts : List A) (kept : List (ShardActs A)) → weigh (keeper k) (settled nothing 0 kept) ≡ 0 → HaveAllActs all kept → HaveAllActs (all ++ as_shard_acts k acts) kept
  whole_more all k acts [] none_here w = tt
  whole_more all k acts (d ∷ ds) none_here w =
      let f : ShardActs A → ℕ = λ x. cond {A = ℕ} (x.shard == k) 1 0 in
      let split = sum_by-cons f d ds in
      let apart : k ≢ d.shard = λ e. let one : cond {A = ℕ} (d.shard == k) 1 0 ≡ 1 = ap {B = ℕ} (λ (b : Bool). cond b 1 0) (eq-eqb d.shard k (sym e)) in omega arith in (
        acts_at-same k d.shard all acts apart ∙ w.0,
        whole_more all k acts ds (omega arith) w.1,
      )

  longer : (list all more : List (ShardAct A)) → IsPrefix list all → IsPrefix list (all ++ more)
  longer list all more p = prefix_trans list all (all ++ more) p (more, refl)

  fits_more : (all : List (ShardAct A)) (k : ℕ) (acts : List A) (v : View A) → weigh (keeper k) v ≡ 0 → Fits all v → Fits (all ++ as_shard_acts k acts) v
  fits_more all k acts v none_here f = record {
    shows = (longer v.shown.list all (as_shard_acts k acts) f.shows.0, f.shows.1);
    hears = (longer v.heard.list all (as_shard_acts k acts) f.hears.0, f.hears.1);
    idle = f.idle;
    whole = whole_more all k acts v.kept none_here f.whole;
  }

  -- what a seat is once it recorded acts
  abbrev recorded : View A → List (ShardAct A) → ShardActs A → List A → View A
  recorded v all part acts = settled (shown (all ++ as_shard_acts part.shard acts) (v.shown.own ++ indices (length all) (length acts))) v.room (shard_acts part.shard (part.acts ++ acts) ∷ [])

  records_at : (views : List (View A)) (k : IsLedger legal count views) (id : ℕ) (v : View A) (part : ShardActs A) (acts : List A) → get_elem? views id ≡ some v → v.heard ≡ nothing → v.kept ≡ part ∷ [] → 0 < v.room → (legal part.shard part.acts → legal part.shard (part.acts ++ acts))
      → IsLedger legal count (set views id (recorded v k.all part acts))
  records_at views k id v part acts at quiet keeps_it some_room may =
      let all : List (ShardAct A) = k.all in
      let more : List (ShardAct A) = as_shard_acts part.shard acts in
      let w : View A = recorded v all part acts in
      let mine = k.each id v at in
      let whole : acts_at part.shard all ≡ part.acts = (subst (HaveAllActs all) keeps_it mine.whole).0 in
      let f : ShardActs A → ℕ = λ x. cond {A = ℕ} (x.shard == part.shard) 1 0 in
      let counted : weigh (keeper part.shard) v ≡ sum_by f (part ∷ []) = ap (λ (l : List (ShardActs A)). sum_by f l) keeps_it in
      let here : cond {A = ℕ} (part.shard == part.shard) 1 0 ≡ 1 = ap {B = ℕ} (λ (b : Bool). cond b 1 0) (eq-eqb part.shard part.shard refl) in
      let one : weigh (keeper part.shard) v ≡ 1 = omega arith in
      let sum = k.sums (keeper part.shard) in
      let long : length (all ++ more) ≡ length all + length acts = length-append all more ∙ ap (λ (n : ℕ). length all + n) (length-acts part.shard acts) in record {
        all = all ++ more;
        lawful = λ j. dite (ℕ_discrete part.shard j)
            (λ same. subst (λ (i : ℕ). legal i (acts_at i (all ++ more))) same (subst (legal part.shard) (sym (acts_at-more part.shard all acts ∙ ap (λ (l : List A). l ++ acts) whole)) (may (subst (legal part.shard) whole (k.lawful part.shard)))))
            (λ apart. subst (legal j) (sym (acts_at-same part.shard j all acts apart)) (k.lawful j));
        each = fits_set (all ++ more) views id w
            (λ j u apart there.
            let le = two_le (weigh (keeper part.shard)) views id j v u (λ e. apart (sym e)) at there in
            let most = once_below-le count part.shard in
            fits_more all part.shard acts u (omega arith) (k.each j u there))
            record {
              shows = (
                prefix_self (all ++ more),
                λ p le. within_more v.shown.own (length all) (length acts) p (mine.shows.1 p (let l = prefix_length v.shown.list all mine.shows.0 in omega arith)) (omega arith),
              );
              hears = fits_nothing (all ++ more);
              idle = λ none_left. absurd (omega arith);
              whole = (acts_at-more part.shard all acts ∙ ap (λ (l : List A). l ++ acts) whole, tt);
            };
        sums = sums;
      }
    where
      sums : (m : Measure) → sum_by (weigh m) (set views id (recorded v k.all part acts)) ≡ total_of count (k.all ++ as_shard_acts part.shard acts) m
      sums (index p) =
          let n : ℕ = length k.all in
          let a = sum_at (weigh (index p)) views id v (recorded v k.all part acts) at in
          let t = k.sums (index p) in
          let unheard : times p v.heard.own ≡ 0 = ap (λ (h : Shown A). times p h.own) quiet in
          let both = times-append p v.shown.own (indices n (length acts)) in
          let more = times-indices n (length acts) p in
          let long : once_below (length (k.all ++ as_shard_acts part.shard acts)) p ≡ once_below (n + length acts) p = ap (λ (x : ℕ). once_below x p) (length-append k.all (as_shard_acts part.shard acts) ∙ ap (λ (x : ℕ). n + x) (length-acts part.shard acts)) in
          omega arith
      sums rooms = sum_same (weigh rooms) views id v (recorded v k.all part acts) at refl ∙ k.sums rooms
      sums (keeper j) =
          sum_same (weigh (keeper j)) views id v (recorded v k.all part acts) at (sym (ap (λ (l : List (ShardActs A)). count_by (λ (x : ShardActs A). x.shard == j) l) keeps_it))
          ∙ k.sums (keeper j)

  pub records : {S : Type 0} (slots id : ℕ) (me : Me S (View A)) (part : ShardActs A) (acts : List A) → me.0.heard ≡ nothing → me.0.kept ≡ part ∷ [] → 0 < me.0.room → (legal part.shard part.acts → legal part.shard (part.acts ++ acts))
      → Allows (Invariant {A = A} {S = S} legal count) slots id me 0 (λ n. n) (Recorded {A = A} {S = S} legal acts (step slots 0 0 0 none) me)
  unfolding records_at
  records {S} slots id me part acts quiet keeps_it some_room may s k long at small =
      let w : View A = recorded me.0 k.all part acts in
      let now = records_at s.views k id me.0 part acts at quiet keeps_it some_room may in
      steps s id me w now (λ found m'. Recorded {A = A} {S = S} legal acts (step slots 0 0 0 none) me found m') (
        part,
        k.all,
        keeps_it,
        (k.each id me.0 at).shows.0,
        (subst (HaveAllActs k.all) keeps_it (k.each id me.0 at).whole).0,
        now.lawful,
        (λ full. all_rooms (set s.views id w) now id w (set_here s.views id w (at_inside s.views id me.0 at)) refl full),
        refl,
        (k.each id me.0 at).shows.1,
      )

  -- the table at the start
  whole_empty : (k n : ℕ) → HaveAllActs [] (empty_from {A = A} k n)
  whole_empty k zero = tt
  whole_empty k (suc n) = (refl, whole_empty (suc k) n)

  none_below : (k n j : ℕ) → j < k → count_by (λ (x : ShardActs A). x.shard == j) (empty_from k n) ≡ 0
  none_below k zero j low = refl
  none_below k (suc n) j low =
      let rest = none_below (suc k) n j (omega arith) in
      let other : cond {A = ℕ} (k == j) 1 0 ≡ 0 = ap {B = ℕ} (λ (b : Bool). cond b 1 0) (ne_eqb k j (λ e. omega arith)) in
      omega (arith, sum_by-cons (λ (x : ShardActs A). cond {A = ℕ} (x.shard == j) 1 0) (shard_acts k []) (empty_from (suc k) n))

  each_once : (k n j : ℕ) → k ≤ j → count_by (λ (x : ShardActs A). x.shard == j) (empty_from k n) ≡ once_below (k + n) j
  each_once k zero j le = sym (once_below-past (k + 0) j (omega arith))
  each_once k (suc n) j le =
      let split = sum_by-cons (λ (x : ShardActs A). cond {A = ℕ} (x.shard == j) 1 0) (shard_acts k []) (empty_from (suc k) n) in
      dite (ℕ_discrete k j)
      (λ same.
      let none_left = none_below (suc k) n j (omega arith) in
      let here : cond {A = ℕ} (k == j) 1 0 ≡ 1 = ap {B = ℕ} (λ (b : Bool). cond b 1 0) (eq-eqb k j same) in
      let one = once_below-here (k + suc n) j (omega arith) in
      omega arith)
      (λ apart.
      let rest = each_once (suc k) n j (omega arith) in
      let other : cond {A = ℕ} (k == j) 1 0 ≡ 0 = ap {B = ℕ} (λ (b : Bool). cond b 1 0) (ne_eqb k j apart) in
      let up : once_below (suc k + n) j ≡ once_below (k + suc n) j = ap (λ (m : ℕ). once_below m j) (omega arith) in
      omega arith)

  pub begins : {S : Type 0} (words : List ℕ) (homes : List (mathlib.Core.Option.Option S)) → ((k : ℕ) → legal k []) → Invariant {A = A} {S = S} legal count record { words = words; homes = homes; views = opening count ∷ [] }
  begins words homes may = record {
    all = [];
    lawful = λ k. may k;
    each = first;
    sums = sums;
  }
    where
      first : (j : ℕ) (v : View A) → get_elem? (opening count ∷ []) j ≡ some v → Fits [] v
      first zero v e = subst (Fits []) (some-injective (opening count) v e) record {
        shows = fits_nothing [];
        hears = fits_nothing [];
        idle = λ none_left. absurd (omega arith);
        whole = whole_empty 0 count;
      }
      first (suc j) v e = absurd (some-ne-none v (sym e))

      sums : (m : Measure) → sum_by (weigh {A = A} m) (opening count ∷ []) ≡ total_of {A = A} count [] m
      sums (index p) = sym (once_below-past 0 p (omega arith))
      sums rooms = refl
      sums (keeper j) = let is = each_once 0 count j (omega arith) in let up : once_below (0 + count) j ≡ once_below count j = ap (λ (m : ℕ). once_below m j) (omega arith) in omega arith

  -- after a join, whose seat the prover knows by an equation
  pub settles_as : {S : Type 0} (slots id : ℕ) (me : Me S (View A)) (v w : View A) (l : List (ℕ × S)) → me ≡ (heard_by v w, l) → 0 < v.room → Allows (Invariant {A = A} {S = S} legal count) slots id me 0 (λ n. n) (Settled {A = A} {S = S} (step slots 0 0 0 none) me)
  settles_as {S} slots id me v w l is some_room = settles slots id me (let room : me.0.room ≡ v.room + w.room = ap (λ (m : Me S (View A)). m.0.room) is in omega arith)

  pub records_as : {S : Type 0} (slots id : ℕ) (me : Me S (View A)) (v w : View A) (l : List (ℕ × S)) (part : ShardActs A) (acts : List A) (told : ℕ → List A → Type 0) → legal ≡ told → me ≡ (heard_by v w, l) → v.kept ≡ [] → w ≡ keeps part → 0 < v.room → (legal part.shard part.acts → legal part.shard (part.acts ++ acts))
      → Allows (Invariant {A = A} {S = S} legal count) slots id me 0 (λ n. n) (Recorded {A = A} {S = S} told acts (step slots 0 0 0 none) me)
  records_as {S} slots id me v w l part acts told same is none_kept keeper_is some_room may =
      subst (λ (t : ℕ → List A → Type 0). Allows (Invariant {A = A} {S = S} legal count) slots id me 0 (λ n. n) (Recorded {A = A} {S = S} t acts (step slots 0 0 0 none) me)) same
      (records slots id me part acts
      (ap (λ (m : Me S (View A)). m.0.heard) is ∙ ap (λ (u : View A). u.shown) keeper_is)
      (ap (λ (m : Me S (View A)). m.0.kept) is ∙ (λ i. none_kept i ++ (keeper_is i).kept))
      (let room : me.0.room ≡ v.room + w.room = ap (λ (m : Me S (View A)). m.0.room) is in omega arith)
      may)

  pub observes_as : {S : Type 0} (slots id : ℕ) (me : Me S (View A)) (v w : View A) (l : List (ℕ × S)) (part : ShardActs A) (told : ℕ → List A → Type 0) → legal ≡ told → me ≡ (heard_by v w, l) → v.kept ≡ [] → w ≡ keeps part → 0 < v.room
      → Allows (Invariant {A = A} {S = S} legal count) slots id me 0 (λ n. n) (Observed {A = A} {S = S} told (step slots 0 0 0 none) me)
  observes_as {S} slots id me v w l part told same is none_kept keeper_is some_room =
      subst (λ (t : ℕ → List A → Type 0). Allows (Invariant {A = A} {S = S} legal count) slots id me 0 (λ n. n) (Observed {A = A} {S = S} t (step slots 0 0 0 none) me)) same
      (observes slots id me part
      (ap (λ (m : Me S (View A)). m.0.heard) is ∙ ap (λ (u : View A). u.shown) keeper_is)
      (ap (λ (m : Me S (View A)). m.0.kept) is ∙ (λ i. none_kept i ++ (keeper_is i).kept))
      (let room : me.0.room ≡ v.room + w.room = ap (λ (m : Me S (View A)). m.0.room) is in omega arith))
