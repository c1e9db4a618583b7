use Rattle.std.proofs.Common.{◌≡◌, subst, sym, ap, ◌∙◌}
use Rattle.shared.specs.Passes.{Shows, Which}
use Rattle.session.specs.FreshSession.{IsClosing}
use Rattle.session.proofs.session.Session.close.Goals as goal

pub returns-clause-ok : goal.returns-clause-ok
returns-clause-ok c =
    let e = c.take_book.ensures in
    let which : c.deref.result.now ≡ c.self.inside.pass.store = c.deref.ensures ∙ sym c.self.invariant in
    subst (λ (v : Shows). IsClosing v c.take_book.result) c.self.view_is
    record {
      room = sym c.room.ensures.value ∙ c.if-room-ne64.false;
      holds = e.holds;
      made = e.made;
      count = e.count;
      trimmed = e.trimmed;
      agrees = e.agrees;
      did = e.did;
      did_count = e.did_count;
      entries = e.entries;
      width_kept = e.unchanged.0 ∙ ap (λ (s : Which). s.width) which;
      limit_kept = e.unchanged.1 ∙ ap (λ (s : Which). s.limit) which;
    }
