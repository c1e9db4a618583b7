-- What is known of results that were looked at in order.
use Rattle.std.proofs.Common.{◌≡◌, ◌≢◌, true≢false, ◌⊎◌, ℕ, zero, suc, ◌+◌, ◌<◌, ◌≤◌, ◌==◌, cond, Bool, true, false, List, [], ◌∷◌, ◌++◌, length, set, take, drop, get_or, Some, Ok, Err, Result, IfOk, IfErr, All, refl, ap, sym, subst, ◌∙◌, inl, inr, ⊎_elim, arith, get_or-set_same, get_or-set_other, length-set, eq-eqb, ne_eqb}
use mathlib.Core.Bool.{beq}
use mathlib.Core.Logic.{dite}
use native.Mathlib.Decide.{ℕ_discrete}
use Rattle.std.proofs.lemmas.List.{map-append, take_all}
use Rattle.std.proofs.lemmas.List.Elements.{All-append}
use Rattle.std.proofs.lemmas.List.Sums.{sum_by-cons}
use Rattle.std.proofs.lemmas.Option.{slice_get_within, get_or_from_slice_get, slice_get-get_or}
use native.Mathlib.Decide.{dec_lt}
use Rattle.mender.specs.Answers.{is_repaired, is_not_lost, is_gone, is_unrecoverable}
use Rattle.book.specs.declared.plan.Item.{Item}
use Rattle.mender.specs.declared.done.Done.{Done}
use Rattle.mender.specs.declared.report.Report.{Report}
use Rattle.mender.specs.declared.report.Gather.{Gather}
use Rattle.mender.specs.declared.report.Gather.TheVariants.{Stranger, Twice, Missing, NoMemory}
use Rattle.gate.specs.Places.{times}
use Rattle.gate.proofs.Lists.{times-append, sum-snoc}
use Rattle.mender.specs.Gathered.{tickets_of, IsOfPlan, IsComplete, IsSound, FirstStranger, FirstTwice, LacksOne, IsFault, IsRefused, report_of, with_answer}
use Rattle.mender.proofs.Counts.{once_below-le, once_below-in, once_below-out}

-- the results so far are sound, the places of their tickets are marked, and their answers counted
pub record Judging (plan : List Item) (before : List Done) (seen : List Bool) (report : Report) : Type 0 where
  pub wide : length seen ≡ length plan
  pub sound : IsSound plan before
  pub marks : (k : ℕ) → k < length plan → cond (get_or seen k false) 1 0 ≡ times k (tickets_of before)
  pub counted : report ≡ report_of before

module _ {A : Type 0} (P : A → Type 0) where
  pub all_one : (x : A) → P x → All P (x ∷ [])
  all_one x p zero d lt = p
  all_one x p (suc k) d lt = absurd (omega arith)

  all_at : (xs : List A) (x : A) (ys : List A) → All P (xs ++ x ∷ ys) → P x
  all_at [] x ys h = h 0 x (omega arith)
  all_at (y ∷ xs) x ys h = all_at xs x ys (λ k d lt. h (suc k) d (omega arith))

  pub all_right : (xs ys : List A) → All P (xs ++ ys) → All P ys
  all_right [] ys h = h
  all_right (x ∷ xs) ys h = all_right xs ys (λ k d lt. h (suc k) d (omega arith))

  all_left : (xs ys : List A) → All P (xs ++ ys) → All P xs
  all_left [] ys h k d lt = absurd (omega arith)
  all_left (x ∷ xs) ys h zero d lt = h 0 d (omega arith)
  all_left (x ∷ xs) ys h (suc k) d lt = all_left xs ys (λ j e le. h (suc j) e (omega arith)) k d (omega arith)

-- what is before a place, the element there, and what is after it
pub split_at : {A : Type 0} (xs : List A) (i : ℕ) (x : A) → i < length xs → x ≡ get_or xs i x → xs ≡ take i xs ++ x ∷ drop (suc i) xs
split_at [] i x lt e = absurd (omega arith)
split_at (y ∷ ys) zero x lt e = ap (λ z. z ∷ ys) (sym e)
split_at (y ∷ ys) (suc i) x lt e = ap (λ zs. y ∷ zs) (split_at ys i x (omega arith) e)

pub mark_at : (seen : List Bool) (i : ℕ) (b d : Bool) → i < length seen → b ≡ get_or seen i b → get_or seen i d ≡ b
mark_at seen i b d lt there = get_or_from_slice_get seen i (get_or seen i b) d (slice_get-get_or seen i b lt) ∙ sym there

pub of_plan_at : (plan : List Item) (d : Done) (it : Item) → d.ticket < length plan → it ≡ get_or plan d.ticket it → it ≡ d.item → IsOfPlan plan d
of_plan_at plan d it lt there same = slice_get-get_or plan d.ticket it lt ∙ ap Some (sym there ∙ same)

pub stranger_past : (plan : List Item) (d : Done) → length plan ≤ d.ticket → ¬ IsOfPlan plan d
stranger_past plan d le of_plan = let lt = slice_get_within plan d.ticket d.item of_plan in omega arith

pub stranger_other : (plan : List Item) (d : Done) (it : Item) → it ≡ get_or plan d.ticket it → ¬ (it ≡ d.item) → ¬ IsOfPlan plan d
stranger_other plan d it there other of_plan = other (there ∙ get_or_from_slice_get plan d.ticket d.item it of_plan)

pub tickets-append : (xs ys : List Done) (n : ℕ) → times n (tickets_of (xs ++ ys)) ≡ times n (tickets_of xs) + times n (tickets_of ys)
tickets-append xs ys n = ap (times n) (map-append (λ d. d.ticket) xs ys) ∙ times-append n (tickets_of xs) (tickets_of ys)

tickets-cons : (d : Done) (ys : List Done) (n : ℕ) → times n (tickets_of (d ∷ ys)) ≡ cond (d.ticket == n) 1 0 + times n (tickets_of ys)
tickets-cons d ys n = sum_by-cons (λ m. cond (m == n) 1 0) d.ticket (tickets_of ys)

pub here_one : (n : ℕ) → cond {A = ℕ} (n == n) 1 0 ≡ 1
here_one n = ap {B = ℕ} (λ (b : Bool). cond b 1 0) (eq-eqb n n refl)

pub else_none : (m n : ℕ) → m ≢ n → cond {A = ℕ} (m == n) 1 0 ≡ 0
else_none m n other = ap {B = ℕ} (λ (b : Bool). cond b 1 0) (ne_eqb m n other)

report-snoc : (xs : List Done) (d : Done) → report_of (xs ++ d ∷ []) ≡ with_answer (report_of xs) d.answer
report-snoc xs d = λ i. record {
  repaired = sum-snoc (λ (e : Done). cond (is_repaired e.answer) 1 0) xs d i;
  not_lost = sum-snoc (λ (e : Done). cond (is_not_lost e.answer) 1 0) xs d i;
  gone = sum-snoc (λ (e : Done). cond (is_gone e.answer) 1 0) xs d i;
  unrecoverable = sum-snoc (λ (e : Done). cond (is_unrecoverable e.answer) 1 0) xs d i;
}

-- a result more, of a ticket that has none
pub one_more : (before : List Done) (d : Done) (n : ℕ) → times n (tickets_of before) ≤ 1 → times d.ticket (tickets_of before) ≡ 0 → times n (tickets_of (before ++ d ∷ [])) ≤ 1
one_more before d n most none_yet = dite (ℕ_discrete d.ticket n)
    (λ same.
    let all = tickets-append before (d ∷ []) n in
    let more = tickets-cons d [] n in
    let one = here_one n in
    let one' : cond {A = ℕ} (d.ticket == n) 1 0 ≡ 1 = subst (λ (m : ℕ). cond {A = ℕ} (m == n) 1 0 ≡ 1) (sym same) one in
    let none' : times n (tickets_of before) ≡ 0 = subst (λ (m : ℕ). times m (tickets_of before) ≡ 0) same none_yet in
    omega arith)
    (λ other.
    let all = tickets-append before (d ∷ []) n in
    let more = tickets-cons d [] n in
    let none = else_none d.ticket n other in
    omega arith)

-- one result more
pub judged_more : (plan : List Item) (before : List Done) (seen : List Bool) (report : Report) (d : Done) → Judging plan before seen report
    → d.ticket < length plan → IsOfPlan plan d → get_or seen d.ticket false ≡ false
    → Judging plan (before ++ d ∷ []) (set seen d.ticket true) (with_answer report d.answer)
judged_more plan before seen report d j lt of_plan unseen =
    let wide = j.wide in
    let none_yet : times d.ticket (tickets_of before) ≡ 0 = sym (j.marks d.ticket lt) ∙ ap {B = ℕ} (λ (b : Bool). cond b 1 0) unseen in record {
      wide = length-set seen d.ticket true ∙ j.wide;
      sound = (
        All-append (IsOfPlan plan) before (d ∷ []) j.sound.0 (all_one (IsOfPlan plan) d of_plan),
        λ n. one_more before d n (j.sound.1 n) none_yet,
      );
      marks = λ k inside. dite (ℕ_discrete d.ticket k)
          (λ same.
          let all = tickets-append before (d ∷ []) k in
          let more = tickets-cons d [] k in
          let one = here_one k in
          let one' : cond {A = ℕ} (d.ticket == k) 1 0 ≡ 1 = subst (λ (m : ℕ). cond {A = ℕ} (m == k) 1 0 ≡ 1) (sym same) one in
          let none' : times k (tickets_of before) ≡ 0 = subst (λ (m : ℕ). times m (tickets_of before) ≡ 0) same none_yet in
          let set_here : get_or (set seen d.ticket true) k false ≡ true = subst (λ (m : ℕ). get_or (set seen d.ticket true) m false ≡ true) same (get_or-set_same seen d.ticket true false (omega arith)) in
          let marked : cond {A = ℕ} (get_or (set seen d.ticket true) k false) 1 0 ≡ 1 = ap {B = ℕ} (λ (b : Bool). cond b 1 0) set_here in
          omega arith)
          (λ other.
          let all = tickets-append before (d ∷ []) k in
          let more = tickets-cons d [] k in
          let none = else_none d.ticket k other in
          let mark = j.marks k inside in
          let kept : get_or (set seen d.ticket true) k false ≡ get_or seen k false = get_or-set_other seen d.ticket k true false (λ e. other (sym e)) in
          let marked : cond {A = ℕ} (get_or (set seen d.ticket true) k false) 1 0 ≡ cond {A = ℕ} (get_or seen k false) 1 0 = ap {B = ℕ} (λ (b : Bool). cond b 1 0) kept in
          omega arith);
      counted = ap (λ r. with_answer r d.answer) j.counted ∙ sym (report-snoc before d);
    }

-- all results are of the plan, so none has a ticket past its end
pub none_past : (plan : List Item) (done : List Done) (n : ℕ) → All (IsOfPlan plan) done → length plan ≤ n → times n (tickets_of done) ≡ 0
none_past plan [] n all le = refl
none_past plan (d ∷ ds) n all le =
    let lt = slice_get_within plan d.ticket d.item (all 0 d (omega arith)) in
    let rest = none_past plan ds n (λ k e lt'. all (suc k) e (omega arith)) le in
    let more = tickets-cons d ds n in
    let none = else_none d.ticket n (λ e. omega arith) in
    omega arith

-- all results were looked at
pub judged_whole : (plan : List Item) (done : List Done) (n : ℕ) (seen seen' : List Bool) (report : Report) → Judging plan (take n done) seen report → length done ≤ n → seen' ≡ seen → Judging plan done seen' report
judged_whole plan done n seen seen' report j le same =
    let P : List Bool → List Done → Type 0 = λ marks results. Judging plan results marks report in
    subst (λ marks. P marks done) (sym same) (subst (P seen) (take_all n done le) j)

-- a mark that is not there
unmarked : (mark : Bool) → beq mark false ≡ true → cond {A = ℕ} mark 1 0 ≡ 0
unmarked true e = absurd (true≢false (sym e))
unmarked false e = refl

marked : (mark : Bool) → beq mark false ≡ false → cond {A = ℕ} mark 1 0 ≡ 1
marked true e = refl
marked false e = absurd (true≢false e)

-- a place without a mark
pub judged_lacking : (plan : List Item) (done : List Done) (seen : List Bool) (report : Report) → Judging plan done seen report → (k : ℕ) → k < length seen → beq (get_or seen k false) false ≡ true → LacksOne plan done
judged_lacking plan done seen report j k inside none =
    let wide = j.wide in
    let below : k < length plan = omega arith in record { sound = j.sound; ticket = k; below = below; missing = sym (j.marks k below) ∙ unmarked (get_or seen k false) none }

-- all places are marked
pub judged_all : (plan : List Item) (done : List Done) (seen : List Bool) (report : Report) → Judging plan done seen report → ((k : ℕ) → k < length seen → beq (get_or seen k false) false ≡ false) → IsComplete plan done
judged_all plan done seen report j all =
    let wide = j.wide in (
      j.sound.0,
      λ n. dite (dec_lt n (length plan))
          (λ inside. sym (j.marks n inside) ∙ (marked (get_or seen n false) (all n (omega arith)) ∙ sym (once_below-in n (length plan) inside)))
          (λ past. none_past plan done n j.sound.0 (omega arith) ∙ sym (once_below-out n (length plan) (omega arith))),
    )

-- of two ways to name a place in a list: it is the same place, or one comes before the other
compare : {A : Type 0} (xs : List A) (x : A) (xs' ys : List A) (y : A) (ys' : List A) → xs ++ x ∷ xs' ≡ ys ++ y ∷ ys'
    → ((xs ≡ ys) × (x ≡ y)) ⊎ (((zs : List A) × (ys ≡ xs ++ x ∷ zs)) ⊎ ((zs : List A) × (xs ≡ ys ++ y ∷ zs)))
compare [] x xs' [] y ys' e = inl (refl, cc)
compare [] x xs' (z ∷ ys) y ys' e = let head : z ≡ x = cc in inr (inl (ys, ap (λ w. w ∷ ys) head))
compare (z ∷ xs) x xs' [] y ys' e = let head : z ≡ y = cc in inr (inr (xs, ap (λ w. w ∷ xs) head))
compare (z ∷ xs) x xs' (w ∷ ys) y ys' e =
    let head : z ≡ w = cc in
    let tail : xs ++ x ∷ xs' ≡ ys ++ y ∷ ys' = cc in
    ⊎_elim
    (λ t. inl (cc, t.1))
    (λ u. ⊎_elim
    (λ t. inr (inl (t.0, cc)))
    (λ t. inr (inr (t.0, cc)))
    u)
    (compare xs x xs' ys y ys' tail)

-- in sound results each one is of the plan, and its ticket has none before it
sound_at : (plan : List Item) (before : List Done) (d : Done) (after : List Done) → IsSound plan (before ++ d ∷ after) → IsOfPlan plan d × (times d.ticket (tickets_of before) ≡ 0)
sound_at plan before d after sound = (
  all_at (IsOfPlan plan) before d after sound.0,
  (let all = tickets-append before (d ∷ after) d.ticket in
      let more = tickets-cons d after d.ticket in
      let one = here_one d.ticket in
      let most = sound.1 d.ticket in
      omega arith),
)

not_sound_stranger : (plan : List Item) (done : List Done) → IsSound plan done → FirstStranger plan done → ⊥
not_sound_stranger plan done sound f = f.stranger (sound_at plan f.before f.it f.after (subst (IsSound plan) f.order sound)).0

not_sound_twice : (plan : List Item) (done : List Done) → IsSound plan done → FirstTwice plan done → ⊥
not_sound_twice plan done sound f =
    let again = f.again in
    let none = (sound_at plan f.before f.it f.after (subst (IsSound plan) f.order sound)).1 in
    omega arith

not_both : (plan : List Item) (done : List Done) → FirstStranger plan done → FirstTwice plan done → ⊥
not_both plan done f g = ⊎_elim
    (λ t. f.stranger (subst (IsOfPlan plan) (sym t.1) g.of_plan))
    (λ u. ⊎_elim
    (λ t. f.stranger (sound_at plan f.before f.it t.0 (subst (IsSound plan) t.1 g.sound)).0)
    (λ t.
    let again = g.again in
    let none = (sound_at plan g.before g.it t.0 (subst (IsSound plan) t.1 f.sound)).1 in
    omega arith)
    u)
    (compare f.before f.it f.after g.before g.it g.after (sym f.order ∙ g.order))

complete_sound : (plan : List Item) (done : List Done) → IsComplete plan done → IsSound plan done
complete_sound plan done c = (c.0, λ n. let is = c.1 n in let le = once_below-le n (length plan) in omega arith)

not_complete_lacking : (plan : List Item) (done : List Done) → IsComplete plan done → LacksOne plan done → ⊥
not_complete_lacking plan done c l =
    let is = c.1 l.ticket in
    let one = once_below-in l.ticket (length plan) l.below in
    let none = l.missing in
    omega arith

-- each answer is given where it is right
module _ (plan : List Item) (done : List Done) (report : Report → Type 0) where
  pub exact_complete : (r : Result Report Gather) → IfErr r (IsFault plan done) → IsComplete plan done → IfErr r (λ e. e ≡ NoMemory)
  exact_complete (Ok _) f c = tt
  exact_complete (Err Stranger) f c = absurd (not_sound_stranger plan done (complete_sound plan done c) f)
  exact_complete (Err Twice) f c = absurd (not_sound_twice plan done (complete_sound plan done c) f)
  exact_complete (Err Missing) f c = absurd (not_complete_lacking plan done c f)
  exact_complete (Err NoMemory) f c = refl

  pub exact_stranger : (r : Result Report Gather) → IfOk r (λ x. IsComplete plan done × report x) → IfErr r (IsFault plan done) → FirstStranger plan done → IsRefused Stranger r
  exact_stranger (Ok _) ok f s = not_sound_stranger plan done (complete_sound plan done ok.0) s
  exact_stranger (Err Stranger) ok f s = inl refl
  exact_stranger (Err Twice) ok f s = absurd (not_both plan done s f)
  exact_stranger (Err Missing) ok f s = absurd (not_sound_stranger plan done f.sound s)
  exact_stranger (Err NoMemory) ok f s = inr refl

  pub exact_twice : (r : Result Report Gather) → IfOk r (λ x. IsComplete plan done × report x) → IfErr r (IsFault plan done) → FirstTwice plan done → IsRefused Twice r
  exact_twice (Ok _) ok f s = not_sound_twice plan done (complete_sound plan done ok.0) s
  exact_twice (Err Stranger) ok f s = absurd (not_both plan done f s)
  exact_twice (Err Twice) ok f s = inl refl
  exact_twice (Err Missing) ok f s = absurd (not_sound_twice plan done f.sound s)
  exact_twice (Err NoMemory) ok f s = inr refl

  pub exact_missing : (r : Result Report Gather) → IfOk r (λ x. IsComplete plan done × report x) → IfErr r (IsFault plan done) → LacksOne plan done → IsRefused Missing r
  exact_missing (Ok _) ok f s = not_complete_lacking plan done ok.0 s
  exact_missing (Err Stranger) ok f s = absurd (not_sound_stranger plan done s.sound f)
  exact_missing (Err Twice) ok f s = absurd (not_sound_twice plan done s.sound f)
  exact_missing (Err Missing) ok f s = inl refl
  exact_missing (Err NoMemory) ok f s = inr refl
