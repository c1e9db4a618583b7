use Rattle.std.proofs.Common.{refl, true≢false, ◌≡◌, ◌+◌, ◌<◌, ◌++◌, ◌∷◌, [], ℕ, suc, Bool, true, false, cond, length, take, drop, get_or, set, ap, sym, subst, ◌∙◌, arith}
use Rattle.std.proofs.lemmas.List.{take_more}
use Rattle.mender.specs.Gathered.{with_answer}
use Rattle.mender.proofs.Judged.{Judging, judged_more, judged_whole, judged_lacking, judged_all, split_at, mark_at, of_plan_at, stranger_past, stranger_other}
use Rattle.mender.proofs.results.judge.Goals as goal
use Rattle.mender.proofs.results.judge.Goals.{then-place-len-via-then-place-len, then-place-len-via-else-place-len+then-not-are_same}

pub returns-then-place-len-clause-err : goal.returns-then-place-len-clause-err
returns-then-place-len-clause-err c =
    let it = c.one-item.result in
    let here : it ≡ get_or c.args.done.now c.loop-one.one-index it = cc in
    let lt : c.loop-one.one-index < length c.args.done.now = omega arith in record {
      before = take c.loop-one.one-index c.args.done.now;
      it = it;
      after = drop (suc c.loop-one.one-index) c.args.done.now;
      order = split_at c.args.done.now c.loop-one.one-index it lt here;
      sound = c.loop-one.invariant.sound;
      stranger = elim c.then-place-len.branch [
        | then-place-len-via-then-place-len w ↦ stranger_past c.args.plan.now.items.items it (omega arith)
        | then-place-len-via-else-place-len+then-not-are_same w ↦ stranger_other c.args.plan.now.items.items it w.index.result.now (cc) (λ same. true≢false (sym (w.if-not-are_same.ensures.1 same)))
      ];
    }

pub returns-then-index-clause-err : goal.returns-then-index-clause-err
returns-then-index-clause-err c =
    let it = c.one-item.result in
    let here : it ≡ get_or c.args.done.now c.loop-one.one-index it = cc in
    let lt : c.loop-one.one-index < length c.args.done.now = omega arith in
    let inside : it.ticket < length c.args.plan.now.items.items = omega arith in
    let wide = c.loop-one.invariant.wide in
    let marked : get_or c.loop-one.seen.items it.ticket false ≡ true = mark_at c.loop-one.seen.items it.ticket c.index-in-loop-one.result.now false (omega arith) c.index-in-loop-one.ensures ∙ c.if-index.true in
    let once = c.loop-one.invariant.marks it.ticket inside in
    let one : cond {A = ℕ} (get_or c.loop-one.seen.items it.ticket false) 1 0 ≡ 1 = ap {B = ℕ} (λ (b : Bool). cond b 1 0) marked in record {
      before = take c.loop-one.one-index c.args.done.now;
      it = it;
      after = drop (suc c.loop-one.one-index) c.args.done.now;
      order = split_at c.args.done.now c.loop-one.one-index it lt here;
      sound = c.loop-one.invariant.sound;
      of_plan = of_plan_at c.args.plan.now.items.items it c.index.result.now inside (cc) (c.if-not-are_same.ensures.0 refl);
      again = omega arith;
    }

pub loop-one-preserved : goal.loop-one-preserved
loop-one-preserved c =
    let it = c.one-item.result in
    let done = c.args.done.now in
    let plan = c.args.plan.now.items.items in
    let i = c.loop-one.one-index in
    let here : it ≡ get_or done i it = cc in
    let lt : i < length done = omega arith in
    let inside : it.ticket < length plan = omega arith in
    let wide = c.loop-one.invariant.wide in
    let unseen : get_or c.loop-one.seen.items it.ticket false ≡ false = mark_at c.loop-one.seen.items it.ticket c.index-in-loop-one.result.now false (omega arith) c.index-in-loop-one.ensures ∙ c.if-index.false in
    let of_plan = of_plan_at plan it c.index.result.now inside (cc) (c.if-not-are_same.ensures.0 refl) in
    let more = judged_more plan (take i done) c.loop-one.seen.items c.loop-one.report it c.loop-one.invariant inside of_plan unseen in
    subst (λ r. Judging plan (take (i + 1) done) (set c.loop-one.seen.items it.ticket true) r) (sym c.count.ensures)
    (subst (λ l. Judging plan l (set c.loop-one.seen.items it.ticket true) (with_answer c.loop-one.report it.answer)) (sym (take_more done i it lt ∙ ap (λ d. take i done ++ d ∷ []) (sym here))) more)

pub returns-then-contains-clause-err : goal.returns-then-contains-clause-err
returns-then-contains-clause-err c =
    let j = judged_whole _ _ _ _ _ _ c.loop-one.invariant (omega arith) c.deref.ensures.value in
    let lacks = c.if-contains.ensures.cases in
    judged_lacking _ _ c.deref.result.now _ j lacks.0 lacks.1 (lacks.2 false)

pub returns-clause-ok : goal.returns-clause-ok
returns-clause-ok c =
    let j = judged_whole _ _ _ _ _ _ c.loop-one.invariant (omega arith) c.deref.ensures.value in
    (judged_all _ _ _ _ j (λ k inside. c.if-contains.ensures.cases k false (omega arith) inside), j.counted)
