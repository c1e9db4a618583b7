use Rattle.std.proofs.Common.{Some, sym, ap, ◌∙◌}
use Rattle.store_c.specs.Buffers.{bytes_held}
use Rattle.store_c.proofs.Puts.{put_from}
use Rattle.store_c.proofs.buffers.put_held.Goals as goal

pub returns-in-Some-Buffer : goal.returns-in-Some-Buffer
returns-in-Some-Buffer c =
    let put = c.put_buffer in
    let had = ap bytes_held (sym c.take.ensures.value ∙ c.in-Some-Buffer.is ∙ ap Some c.in-Some-Buffer.field-0-is) in
    put_from c.args.session.now c.args.given.now c.args.name.now c.args.data_fragments put.result (c.args.version.now, put.new.version) put.new.session put.new.given c.in-Some-Buffer.bytes.items had put.ensures.put
    put.ensures.spent

pub returns-in-Some-Refused : goal.returns-in-Some-Refused
returns-in-Some-Refused c =
    let put = c.put_refused in
    let had = ap bytes_held (sym c.take.ensures.value ∙ c.in-Some-Refused.is ∙ ap Some c.in-Some-Refused.field-0-is) in
    put_from c.args.session.now c.args.given.now c.args.name.now c.args.data_fragments put.result (c.args.version.now, put.new.version) put.new.session put.new.given c.in-Some-Refused.refused had put.ensures.put
    put.ensures.spent
