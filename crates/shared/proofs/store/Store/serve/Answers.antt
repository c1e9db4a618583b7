use Rattle.std.proofs.Common.{◌≡◌, [], ◌∷◌, IfOk, ap, sym, subst, ◌∙◌}
use Rattle.history.specs.Step.{put, lose, repair, delete, stat}
use Rattle.requests.specs.declared.jobs.Ask.{Ask}
use Rattle.requests.specs.declared.jobs.Reply.TheVariants.{Trimmed}
use Rattle.shared.specs.Passes.{Which}
use Rattle.shared.specs.Calls.{GrantedIn, IfGranted}
use Rattle.shared.specs.Runs.{operation_asked}
use Rattle.shared.specs.Serving.{Serves}
use Rattle.shared.proofs.Serving.{serves_made, serves_read, serves_trim}
use Rattle.shared.proofs.store.Store.serve.Goals as goal

pub returns-in-Put-clause-ok : goal.returns-in-Put-clause-ok
returns-in-Put-clause-ok g c =
    serves_made c.args.pass.now c.serve_put.new.pass c.args.ask (put c.in-Put.name c.in-Put.code c.in-Put.bytes) c.serve_put.result c.reply_to.result (ap operation_asked c.in-Put.is) c.reply_to.ensures c.serve_put.ensures.called
    (λ n start len e. cc e)

pub returns-in-Lose-clause-ok : goal.returns-in-Lose-clause-ok
returns-in-Lose-clause-ok g c =
    serves_made c.args.pass.now c.make-in-Lose.new.pass c.args.ask (lose c.in-Lose.name c.in-Lose.stripe c.in-Lose.fragment) c.make-in-Lose.result c.reply_to-in-Lose.result (ap operation_asked c.in-Lose.is) c.reply_to-in-Lose.ensures c.make-in-Lose.ensures.called
    (λ n start len e. cc e)

pub returns-in-Repair-clause-ok : goal.returns-in-Repair-clause-ok
returns-in-Repair-clause-ok g c =
    serves_made c.args.pass.now c.repair.new.pass c.args.ask (repair c.in-Repair.name c.in-Repair.stripe c.in-Repair.fragment) c.repair.result c.reply_to-in-Repair.result (ap operation_asked c.in-Repair.is) c.reply_to-in-Repair.ensures c.repair.ensures.called
    (λ n start len e. cc e)

pub returns-in-Delete-clause-ok : goal.returns-in-Delete-clause-ok
returns-in-Delete-clause-ok g c =
    serves_made c.args.pass.now c.make-in-Delete.new.pass c.args.ask (delete c.in-Delete.name) c.make-in-Delete.result c.reply_to-in-Delete.result (ap operation_asked c.in-Delete.is) c.reply_to-in-Delete.ensures c.make-in-Delete.ensures.called
    (λ n start len e. cc e)

pub returns-in-Stat-clause-ok : goal.returns-in-Stat-clause-ok
returns-in-Stat-clause-ok g c =
    serves_made c.args.pass.now c.make-in-Stat.new.pass c.args.ask (stat c.in-Stat.name) c.make-in-Stat.result c.reply_to-in-Stat.result (ap operation_asked c.in-Stat.is) c.reply_to-in-Stat.ensures c.make-in-Stat.ensures.called
    (λ n start len e. cc e)

pub returns-in-Read-clause-ok : goal.returns-in-Read-clause-ok
returns-in-Read-clause-ok g c =
    let width : c.make.new.pass.store.width ≡ c.args.self.now.width = ap (λ (s : Which). s.width) (c.make.ensures.called.takes.stays.0 ∙ c.requires) in
    serves_read c.args.pass.now c.make.new.pass c.args.ask c.in-Read.name c.in-Read.start c.in-Read.len c.make.result c.reply_to-in-Read.result (ap operation_asked c.in-Read.is)
    c.reply_to-in-Read.ensures c.make.ensures.called
    (subst (λ w. IfOk c.make.result (λ answer. IfGranted answer (GrantedIn c.make.new.pass.seen w c.in-Read.name c.in-Read.start c.in-Read.len))) (sym width) c.make.ensures.granted)

pub returns-in-Ok-clause-ok : goal.returns-in-Ok-clause-ok
returns-in-Ok-clause-ok g c =
    subst (λ (a : Ask). Serves c.args.pass.now (a ∷ []) (Trimmed c.in-Ok.count ∷ []) c.trim.new.pass) (sym c.in-Trim.is)
    (serves_trim c.args.pass.now c.trim.new.pass c.in-Trim.keep c.in-Ok.count c.in-Ok.ensures.takes)
