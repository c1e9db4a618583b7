-- One more worker, started or joined.
use Rattle.std.proofs.Common.{ℕ, Bool, List, [], ◌∷◌, ◌++◌, Result, Ok, Err, IfOk, map, subst, sym}
use Rattle.std.proofs.lemmas.List.{map-append}
use Rattle.shared.specs.Passes.{Which}
use Rattle.rounds.specs.Rounds.{AllBelongTo, IsWorkFor, ArePaced, AreReady, IsReady, DidAll, DidAt, EachRan, Effect, work_of}
use Rattle.rounds.specs.declared.work.Ran.{Ran}
use Rattle.rounds.specs.declared.work.Started.{Started}
use Rattle.rounds.specs.declared.work.Work.{Work}

ran-more : {E O : Type 0} (P : Work E → Ran O → Type 0) (works : List (Work E)) (rans : List (Ran O)) (w : Work E) (r : Ran O) → EachRan P works rans → P w r → EachRan P (works ++ w ∷ []) (rans ++ r ∷ [])
ran-more P [] [] w r all last = (last, tt)
ran-more P [] (x ∷ rans) w r all last = absurd all
ran-more P (x ∷ works) [] w r all last = absurd all
ran-more P (x ∷ works) (y ∷ rans) w r all last = (all.0, ran-more P works rans w r all.1 last)

pub joined-more : {E Pace O : Type 0} (P : Work E → Ran O → Type 0) (started : List (Started E Pace O)) (one : Started E Pace O) (rans : List (Ran O)) (r : Ran O) → EachRan P (map work_of started) rans → P (work_of one) r
    → EachRan P (map work_of (started ++ one ∷ [])) (rans ++ r ∷ [])
joined-more {E} P started one rans r all last =
    subst (λ (works : List (Work E)). EachRan P works (rans ++ r ∷ [])) (sym (map-append work_of started (one ∷ []))) (ran-more P (map work_of started) rans (work_of one) r all last)

-- the effect of each worker, and that it was paced
pub each_did : {E O : Type 0} (did : Effect E O) (paced : (ℕ → Bool → Type 0) → Effect E O) (may_answer : ℕ → Bool → Type 0) (works : List (Work E)) (rans : List (Ran O))
    → EachRan (DidAt did paced may_answer) works rans → DidAll did works rans × ArePaced paced may_answer works rans
each_did did paced may_answer [] [] all = (tt, tt)
each_did did paced may_answer [] (r ∷ rans) all = absurd all
each_did did paced may_answer (w ∷ works) [] all = absurd all
each_did did paced may_answer (w ∷ works) (r ∷ rans) all = let rest = each_did did paced may_answer works rans all.1 in ((all.0.0, rest.0), (all.0.1, rest.1))

pub if_each_did : {E O V X : Type 0} (items : V → List (Ran O)) (did : Effect E O) (paced : (ℕ → Bool → Type 0) → Effect E O) (may_answer : ℕ → Bool → Type 0) (works : List (Work E)) (r : Result V X)
    → IfOk r (λ v. EachRan (DidAt did paced may_answer) works (items v)) → IfOk r (λ v. DidAll did works (items v)) × IfOk r (λ v. ArePaced paced may_answer works (items v))
if_each_did items did paced may_answer works (Ok v) all = each_did did paced may_answer works (items v) all
if_each_did items did paced may_answer works (Err e) all = (tt, tt)

-- the work between others has a pass to the store too
pub one-of : {E : Type 0} (fits : E → Type 0) (store : Which) (before after : List (Work E)) (w : Work E) → AllBelongTo fits store (before ++ w ∷ after) → IsWorkFor fits store w
one-of fits store [] after w all = all.0
one-of fits store (x ∷ before) after w all = one-of fits store before after w all.1

pub ready-more : {E Pace O : Type 0} (fits : E → Type 0) (did : Effect E O) (paced : (ℕ → Bool → Type 0) → Effect E O) (store : Which) (pace : Pace) (may_answer : ℕ → Bool → Type 0) (started : List (Started E Pace O)) (one : Started E Pace O)
    → AreReady fits did paced store pace may_answer started → IsReady fits did paced store pace may_answer one → AreReady fits did paced store pace may_answer (started ++ one ∷ [])
ready-more fits did paced store pace may_answer [] one all last = (last, tt)
ready-more fits did paced store pace may_answer (x ∷ started) one all last = (all.0, ready-more fits did paced store pace may_answer started one all.1 last)

pub one-ready : {E Pace O : Type 0} (fits : E → Type 0) (did : Effect E O) (paced : (ℕ → Bool → Type 0) → Effect E O) (store : Which) (pace : Pace) (may_answer : ℕ → Bool → Type 0) (before after : List (Started E Pace O)) (one : Started E Pace O)
    → AreReady fits did paced store pace may_answer (before ++ one ∷ after) → IsReady fits did paced store pace may_answer one
one-ready fits did paced store pace may_answer [] after one all = all.0
one-ready fits did paced store pace may_answer (x ∷ before) after one all = one-ready fits did paced store pace may_answer before after one all.1
