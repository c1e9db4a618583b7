use Rattle.std.proofs.Common.{Some, length, refl, sym, ap, ◌∙◌, arith}
use Rattle.store_c.proofs.Closings.{closed_to, kept_few}
use Rattle.store_c.proofs.sessions.close_to.Goals as goal

pub returns-in-Ok : goal.returns-in-Ok
returns-in-Ok c =
    let old = c.in-Some-Session in
    closed_to c.args.held.now _ old.session old.number 0 _ (_, _, _) _ (sym c.take.ensures.value ∙ old.is ∙ ap Some old.field-0-is) c.take.ensures.after refl (record {
      report = record {
        book = c.in-Ok.book;
        closes = c.in-Ok.ensures.ok;
        entries_is = ap length c.entries.ensures.value;
        lawful_is = c.lawful_number.ensures;
      };
      given_is = c.put_in.ensures;
      calls_are = (let few = kept_few c.in-Ok.book in let entries = ap length c.entries.ensures.value in omega (arith, few, entries, c.calls.ensures));
    })
