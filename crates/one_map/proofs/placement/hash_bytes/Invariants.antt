use Rattle.std.proofs.Common.{◌≡◌, take, fold}
use Rattle.one_map.specs.Hash.{hash_step}
use Rattle.one_map.proofs.placement.hash_bytes.Given as goal

abbrev pub invariant-loop-b : goal.invariant-loop-b
invariant-loop-b l = l.hash ≡ fold hash_step l.initial.hash (take l.b-index l.bytes)
