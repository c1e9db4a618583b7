use Rattle.std.proofs.Common.{arith, ◌+◌}
use Rattle.sealed.proofs.Ranges.{padded_on}
use Rattle.sealed.proofs.padding.push_padded.Goals as goal

pub returns : goal.returns
returns c =
    padded_on c.args.blob.now.items c.args.bytes.now c.extend_from_slice.new.self.items c.resize.new.self.items c.args.size (c.len.result + c.args.size) _
    c.in_ok-extend_from_slice.ensures.items c.in_ok-resize.ensures.items
    (omega (arith, c.len.ensures)) (omega arith) c.requires.0
