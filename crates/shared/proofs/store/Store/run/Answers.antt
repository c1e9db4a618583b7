use Rattle.std.proofs.Common.{◌≡◌, ℕ, ◌<◌, inl, inr, refl, List, [], ◌∷◌, ◌++◌, ◌+◌, length, true, sym, ap, subst, ◌∙◌, arith, append_assoc, length-append}
use Rattle.std.proofs.lemmas.List.{map-append, length-map}
use Rattle.std.proofs.lemmas.List.Elements.{All-push}
use mathlib.Core.List.{IsPrefix}
use Rattle.requests.specs.declared.jobs.Ask.{Ask}
use Rattle.requests.specs.declared.jobs.Job.{Job}
use Rattle.requests.specs.declared.jobs.Reply.{Reply}
use Rattle.requests.specs.declared.jobs.RowReply.{RowReply}
use Rattle.shared.specs.Serving.{asks_of, replies_in, rows_asked, rows_replied, Serves}
use Rattle.shared.proofs.Serving.{serves_nothing, serves_append, serves_longer}
use Rattle.shared.proofs.store.Store.run.Goals as goal

abbrev ask_of : Job → Ask
ask_of job = job.ask

all_asks : (done rest jobs : List Job) → done ++ rest ≡ jobs → asks_of done ++ asks_of rest ≡ asks_of jobs
all_asks done rest jobs e = sym (map-append ask_of done rest) ∙ ap asks_of e

abbrev row_asked : Job → ℕ
row_asked job = job.row

abbrev row_replied : RowReply → ℕ
row_replied r = r.row

abbrev reply_in : RowReply → Reply
reply_in r = r.reply

asked_count : (replies : List RowReply) (done : List Job) → length replies ≡ length done
    → length (replies_in replies) ≡ length (asks_of done)
asked_count replies done e = length-map replies reply_in ∙ e ∙ sym (length-map done ask_of)

-- the rows of the replies so far are those of the first jobs
first_rows : (replies : List RowReply) (done rest jobs : List Job) → rows_replied replies ≡ rows_asked done
    → done ++ rest ≡ jobs → IsPrefix (rows_replied replies) (rows_asked jobs)
first_rows replies done rest jobs rows all =
    (rows_asked rest, ap (λ l. l ++ rows_asked rest) rows ∙ sym (map-append row_asked done rest) ∙ ap rows_asked all)

-- a job is left
some_left : (replies : List RowReply) (done rest after jobs : List Job) (job : Job) → length replies ≡ length done → done ++ rest ≡ jobs → rest ≡ job ∷ after → length replies < length jobs
some_left replies done rest after jobs job many all next =
    let long : length jobs ≡ length done + length (job ∷ after) = ap length (sym all) ∙ length-append done rest ∙ ap (λ (l : List Job). length done + length l) next in
    omega arith

pub returns-then-not-before-clause-unfinished : goal.returns-then-not-before-clause-unfinished
returns-then-not-before-clause-unfinished g c =
    let i = c.loop-job.invariant in
    inr (some_left c.loop-job.done.items c.loop-job.yielded c.loop-job.job-iterator.rest.items c.next.new.self.rest.items c.args.jobs.items c.in-Some.job i.1 i.2 c.in-Some.ensures.steps.0)

pub returns-in_default-served-clause-unfinished : goal.returns-in_default-served-clause-unfinished
returns-in_default-served-clause-unfinished g c =
    let i = c.loop-job.invariant in
    inr (some_left c.loop-job.done.items c.loop-job.yielded c.loop-job.job-iterator.rest.items c.next.new.self.rest.items c.args.jobs.items c.in-Some.job i.1 i.2 c.in-Some.ensures.steps.0)

pub returns-in_default-clause-serves_by_then : goal.returns-in_default-clause-serves_by_then
returns-in_default-clause-serves_by_then g c =
    subst (λ (replies : List RowReply). Serves c.args.pass.now (asks_of c.args.jobs.items) (replies_in replies) c.args.pass.now) (sym c.new.ensures.items) (serves_nothing c.args.pass.now (asks_of c.args.jobs.items))

pub returns-then-not-before-clause-serves_by_then : goal.returns-then-not-before-clause-serves_by_then
returns-then-not-before-clause-serves_by_then g c =
    let i = c.loop-job.invariant in
    let rest = c.loop-job.job-iterator.rest.items in
    subst (λ asks. Serves c.args.pass.now asks (replies_in c.loop-job.done.items) c.loop-job.pass) (all_asks c.loop-job.yielded rest c.args.jobs.items i.2)
    (serves_longer c.args.pass.now c.loop-job.pass c.loop-job.pass (asks_of c.loop-job.yielded) (asks_of rest) (replies_in c.loop-job.done.items) (asked_count c.loop-job.done.items c.loop-job.yielded i.1) i.4
    (serves_nothing c.loop-job.pass (asks_of rest)))

pub returns-in_default-served-clause-serves_by_then : goal.returns-in_default-served-clause-serves_by_then
returns-in_default-served-clause-serves_by_then g c =
    let i = c.loop-job.invariant in
    let rest = c.loop-job.job-iterator.rest.items in
    subst (λ asks. Serves c.args.pass.now asks (replies_in c.loop-job.done.items) c.serve-served.new.pass) (all_asks c.loop-job.yielded rest c.args.jobs.items i.2)
    (serves_longer c.args.pass.now c.loop-job.pass c.serve-served.new.pass (asks_of c.loop-job.yielded) (asks_of rest) (replies_in c.loop-job.done.items) (asked_count c.loop-job.done.items c.loop-job.yielded i.1) i.4
    (c.in_default-served.ensures.err (asks_of rest)))

pub returns-in_default-clause-rows_by_then : goal.returns-in_default-clause-rows_by_then
returns-in_default-clause-rows_by_then g c =
    (rows_asked c.args.jobs.items, ap (λ l. rows_replied l ++ rows_asked c.args.jobs.items) c.new.ensures.items)

pub returns-then-not-before-clause-rows_by_then : goal.returns-then-not-before-clause-rows_by_then
returns-then-not-before-clause-rows_by_then g c =
    let i = c.loop-job.invariant in
    first_rows c.loop-job.done.items c.loop-job.yielded c.loop-job.job-iterator.rest.items c.args.jobs.items i.6 i.2

pub returns-in_default-served-clause-rows_by_then : goal.returns-in_default-served-clause-rows_by_then
returns-in_default-served-clause-rows_by_then g c =
    let i = c.loop-job.invariant in
    first_rows c.loop-job.done.items c.loop-job.yielded c.loop-job.job-iterator.rest.items c.args.jobs.items i.6 i.2

pub returns-in_default-clause-cause : goal.returns-in_default-clause-cause
returns-in_default-clause-cause g c = inl (record { none = c.new.ensures.items; memory = refl; pass = refl })

pub returns-then-not-before-clause-cause : goal.returns-then-not-before-clause-cause
returns-then-not-before-clause-cause g c =
    let i = c.loop-job.invariant in
    inr (record {
      before = c.loop-job.yielded;
      job = c.in-Some.job;
      after = c.next.new.self.rest.items;
      jobs_are = sym i.2 ∙ ap (λ (l : List Job). c.loop-job.yielded ++ l) c.in-Some.ensures.steps.0;
      replies = i.1;
      let_through = i.5;
      cause = subst (g.P.Pace.may_answer c.args.pace.now c.in-Some.job.row) c.if-not-before.true c.before-in-loop-job.ensures;
    })

pub returns-in_default-served-clause-cause : goal.returns-in_default-served-clause-cause
returns-in_default-served-clause-cause g c =
    let i = c.loop-job.invariant in
    inr (record {
      before = c.loop-job.yielded;
      job = c.in-Some.job;
      after = c.next.new.self.rest.items;
      jobs_are = sym i.2 ∙ ap (λ (l : List Job). c.loop-job.yielded ++ l) c.in-Some.ensures.steps.0;
      replies = i.1;
      let_through = i.5;
      cause = (subst (g.P.Pace.may_answer c.args.pace.now c.in-Some.job.row) c.if-not-before.false c.before-in-loop-job.ensures, c.in_default-served.ensures.wants);
    })

pub loop-job-preserved : goal.loop-job-preserved
loop-job-preserved g c =
    let i = c.loop-job.invariant in
    let yielded = c.loop-job.yielded in
    let job = c.in-Some.job in
    let reply = c.in-Ok-served.reply in
    let replied : RowReply = record { row = job.row; reply = reply } in
    let done = c.loop-job.done.items in
    let items = c.push_reserved.ensures.items in
    let lengths : length c.push_reserved.new.self.items ≡ length (yielded ++ job ∷ []) =
    ap length items ∙ length-append done (replied ∷ []) ∙ ap (λ (n : ℕ). n + 1) i.1 ∙ sym (length-append yielded (job ∷ [])) in
    let one : Serves c.loop-job.pass (job.ask ∷ []) (reply ∷ []) c.serve-served.new.pass = c.in-Ok-served.ensures.ok in
    let more : Serves c.args.pass.now (asks_of yielded ++ job.ask ∷ []) (replies_in done ++ reply ∷ []) c.serve-served.new.pass =
    serves_append c.args.pass.now c.loop-job.pass c.serve-served.new.pass (asks_of yielded) (job.ask ∷ []) (replies_in done) (reply ∷ []) (asked_count done yielded i.1) i.4 one in (
      one.stays.0 ∙ i.0,
      lengths,
      append_assoc yielded (job ∷ []) c.next.new.self.rest.items ∙ (ap (λ (l : List Job). yielded ++ l) (sym c.in-Some.ensures.steps.0) ∙ i.2),
      omega (arith, i.3, c.push_reserved.ensures.capacity),
      subst (λ (replies : List Reply). Serves c.args.pass.now (asks_of (yielded ++ job ∷ [])) replies c.serve-served.new.pass)
          (sym (ap replies_in items ∙ map-append reply_in done (replied ∷ [])))
          (subst (λ asks. Serves c.args.pass.now asks (replies_in done ++ reply ∷ []) c.serve-served.new.pass) (sym (map-append ask_of yielded (job ∷ []))) more),
      All-push (λ (one : Job). g.P.Pace.may_answer c.args.pace.now one.row true) yielded job i.5 (subst (g.P.Pace.may_answer c.args.pace.now job.row) c.if-not-before.false c.before-in-loop-job.ensures),
      ap rows_replied items ∙ map-append row_replied done (replied ∷ []) ∙ ap (λ l. l ++ job.row ∷ []) i.6
          ∙ sym (map-append row_asked yielded (job ∷ [])),
    )
