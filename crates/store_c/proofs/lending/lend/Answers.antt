use Rattle.std.proofs.Common.{◌≡◌, Ok, Result, refl, sym, ap, subst, ◌∙◌}
use Rattle.sealed.specs.declared.fault.Fault.{Fault}
use Rattle.book.specs.declared.answer.Answer.{Answer}
use Rattle.book.specs.declared.answer.Answer.TheVariants.{Granted}
use Rattle.history.specs.Step.{read}
use Rattle.store_c.specs.Status.{status_of}
use Rattle.store_c.specs.OnSession.{HasReply}
use Rattle.store_c.specs.Lend.{granted_lend, unbuilt_lend}
use Rattle.store_c.proofs.Grants.{granted, has_bytes}
use Rattle.store_c.proofs.Replies.{replied}
use Rattle.store_c.proofs.lending.lend.Goals as goal

pub of_read-requires : goal.of_read-requires
of_read-requires c =
    let call = c.read-reply in
    let here = granted call.result c.in-Ok-Granted.grant call.new.self.seen c.args.session.now.store.width c.in-Some.name c.args.name.now c.args.start c.args.len
    (c.in-Ok-Granted.is ∙ ap Ok c.in-Ok-Granted.field-0-is) c.in-Some.ensures.0 call.ensures.grant in
    record { stands = (here.blob.bytes, here.blob.lost, here.represents.stands) }

pub returns-in-Ok : goal.returns-in-Ok
returns-in-Ok c =
    let name = c.in-Some in
    let call = c.read-reply in
    let v = c.args.session.now in
    let g = c.in-Ok-Granted.grant in
    let start = c.args.start in let len = c.args.len in
    let reply_is : call.result ≡ Ok (Granted g) = c.in-Ok-Granted.is ∙ ap Ok c.in-Ok-Granted.field-0-is in
    let is = replied v (read name.name start len) (read c.args.name.now start len) call.result 0 c.args.version.now c.write_version-status.new.version call.new.self
    (λ i. read (name.ensures.0 i) start len) call.ensures.called (call.ensures.faults, call.ensures.no_memory) (sym (ap status_of reply_is)) c.write_version-status.ensures.version call.ensures.busy call.ensures.lone in
    let so = subst (λ (r : Result Answer Fault). HasReply v (read c.args.name.now start len) r 0 c.args.version.now c.write_version-status.new.version call.new.self) reply_is is in
    let here = granted call.result g call.new.self.seen v.store.width name.name c.args.name.now start len reply_is name.ensures.0 call.ensures.grant in
    let from = c.in-Ok.ensures in
    granted_lend name.ensures.1 g so refl c.in-Ok.lending from
    (has_bytes call.result g call.new.self.seen v.store.width c.args.name.now start len _ c.args.version.now _ reply_is here (from.range_is here.blob.bytes here.blob.lost here.represents.stands) c.write_version-status.ensures.version)
    c.len.ensures c.fill.ensures

pub returns-in-Err : goal.returns-in-Err
returns-in-Err c =
    let name = c.in-Some in
    let call = c.read-reply in
    let v = c.args.session.now in
    let g = c.in-Ok-Granted.grant in
    let start = c.args.start in let len = c.args.len in
    let reply_is : call.result ≡ Ok (Granted g) = c.in-Ok-Granted.is ∙ ap Ok c.in-Ok-Granted.field-0-is in
    let is = replied v (read name.name start len) (read c.args.name.now start len) call.result 0 c.args.version.now c.write_version-status.new.version call.new.self
    (λ i. read (name.ensures.0 i) start len) call.ensures.called (call.ensures.faults, call.ensures.no_memory) (sym (ap status_of reply_is)) c.write_version-status.ensures.version call.ensures.busy call.ensures.lone in
    let so = subst (λ (r : Result Answer Fault). HasReply v (read c.args.name.now start len) r 0 c.args.version.now c.write_version-status.new.version call.new.self) reply_is is in
    unbuilt_lend name.ensures.1 g so refl refl c.requires
