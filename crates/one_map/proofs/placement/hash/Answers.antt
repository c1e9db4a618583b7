use Rattle.std.proofs.Common.{fold, ap, ◌∙◌}
use Rattle.std.specs.Int.{w64}
use Rattle.one_map.specs.Hash.{hash_of, hash_step, hash_pieces}
use Rattle.one_map.proofs.placement.hash.Goals as goal

pub returns : goal.returns
unfolding hash_of
returns c = c.hash_bytes.ensures ∙ (λ i. fold hash_step ((c.hash_words.ensures ∙ ap (hash_pieces w64 0) c.as_chunks.ensures.front) i) (c.as_chunks.ensures.back i))
