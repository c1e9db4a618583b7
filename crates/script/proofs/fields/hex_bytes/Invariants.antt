use Rattle.std.proofs.Common.{◌≡◌, ◌++◌, length}
use Rattle.script.specs.Fields.{are_hex_bytes, hex_bytes}
use Rattle.script.proofs.fields.hex_bytes.Given as goal

abbrev pub invariant-loop-rest : goal.invariant-loop-rest
invariant-loop-rest l = (are_hex_bytes l.fn.text ≡ are_hex_bytes l.rest) × (hex_bytes l.fn.text ≡ l.bytes.items ++ hex_bytes l.rest)

abbrev pub decreases-loop-rest : goal.decreases-loop-rest
decreases-loop-rest l = length l.rest
