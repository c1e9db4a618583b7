use Rattle.std.proofs.Common.{◌∙◌, rules}
use Rattle.store_c.proofs.Holds.{on_copy}
use Rattle.store_c.proofs.lrc_slot_copy.Goals.{in-Some-Version, in_default-deref, in_default-deref-2}
use Rattle.store_c.proofs.lrc_slot_copy.Goals as goal

pub returns : goal.returns
returns c = elim c.match-deref.branch [
  | in-Some-Version w ↦
      let s = w.in-Some-Version in
      let r = w.copy_to-status in
      rw (w.status-is, w.target-is)
      (on_copy c.args.slot.now.held c.put.new.self.held s.version s.field-0-1 c.args.start r.result c.args.target.now r.new.target
      (search rules)
      (c.put.ensures ∙ c.in-Some.ensures.taken)
      r.ensures)
  | in_default-deref w ↦ search rules
  | in_default-deref-2 w ↦ search rules
]
