use Rattle.std.proofs.Common.{◌≡◌, take}
use Rattle.std.specs.Int.{w64}
use Rattle.one_map.specs.Hash.{hash_pieces}
use Rattle.one_map.proofs.placement.hash_words.Given as goal

abbrev pub invariant-loop-piece : goal.invariant-loop-piece
invariant-loop-piece l = l.hash ≡ hash_pieces w64 l.initial.hash (take l.piece-index l.pieces)
