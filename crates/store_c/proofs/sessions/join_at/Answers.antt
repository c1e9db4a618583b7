use Rattle.std.proofs.Common.{Some, refl, sym, ap, ◌∙◌}
use Rattle.store_c.specs.Sessions.{joined}
use Rattle.store_c.proofs.Joins.{joined_with}
use Rattle.store_c.proofs.sessions.join_at.Goals as goal

pub returns-else-theirs-number : goal.returns-else-theirs-number
returns-else-theirs-number c =
    let theirs = c.in-Some-Session in
    let join = c.join.ensures in
    joined_with c.args.given.now _ _ c.args.session.now theirs.other c.args.number theirs.theirs 0 (sym c.take.ensures.value ∙ theirs.is ∙ ap Some theirs.field-0-is)
    (joined c.join.new.self refl c.if-theirs-number.false (record {
      store_is = join.unchanged.0;
      who_is = join.unchanged.1;
      room_is = join.unchanged.2;
      one = join.one;
      seen = join.seen;
      made = join.made;
      acts = join.acts;
      did = join.did;
      whole = join.whole;
      apart = join.apart;
    }) refl c.take.ensures.after)
