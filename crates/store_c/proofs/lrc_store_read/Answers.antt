use Rattle.std.proofs.Common.{Some, sym, ap, ◌∙◌, rules}
use Rattle.store_c.proofs.Replies.{on_session}
use Rattle.store_c.proofs.lrc_store_read.Goals.{in-Some-Session, in-Some+in-Lending-1, in-None-1}
use Rattle.store_c.proofs.lrc_store_read.Goals as goal

pub returns : goal.returns
returns c = elim c.match-deref_mut.branch [
  | in-Some-Session w ↦
      let s = w.in-Some-Session in
      let r = w.read-status in
      rw (w.status-is, w.target-is, w.version-is, w.lent-is, w.built-is)
      (on_session c.args.slot.now.held c.put.new.self.held s.session r.new.session s.field-0-1 r.result _ _
      (sym c.in-Some.ensures.taken ∙ sym c.deref_mut.ensures.value ∙ s.is ∙ ap Some s.field-0-is)
      (c.put.ensures ∙ ap (λ b. b.value) w.held-is) r.ensures)
  | in-Some+in-Lending-1 w ↦ search rules
  | in-None-1 w ↦ search rules
]
