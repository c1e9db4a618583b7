use Rattle.std.proofs.Common.{◌+◌, map, ◌∙◌, arith}
use Rattle.kernels.proofs.GroupLemmas.{block_parities, third_same, fourth_same}
use Rattle.kernels.proofs.groups.encode_block.Goals as goal

pub returns-clause-parities : goal.returns-clause-parities
returns-clause-parities c k h =
    let s = c.sums_of-s.ensures in
    let t = c.sums_of-t.ensures in
    block_parities (map (λ s. s.now) c.args.sources.now) c.store.new.target c.store-2.new.target c.store-3.new.target c.store-4.new.target (c.args.at + k)
    (s.bytes 0 k (omega arith) h, (s.bytes 1 k (omega arith) h, (s.bytes 2 k (omega arith) h, (s.bytes 3 k (omega arith) h, (s.bytes 4 k (omega arith) h, (s.bytes 5 k (omega arith) h, (t.bytes 0 k (omega arith) h, (t.bytes 1 k (omega arith) h, (t.bytes 2 k (omega arith) h, (t.bytes 3 k (omega arith) h, (t.bytes 4 k (omega arith) h, (t.bytes 5 k (omega arith) h, (tt {0})))))))))))))
    (c.store.ensures.lanes k h ∙ s.whole k h)
    (c.store-2.ensures.lanes k h ∙ t.whole k h)
    (c.store-3.ensures.lanes k h ∙ c.third_each-parity.ensures k h ∙ third_same _ _ _ _ _ _ _ _ _ _ _ _ (s.bit_0 k h) (s.bit_1 k h) (s.bit_2 k h) (t.bit_0 k h) (t.bit_1 k h) (t.bit_2 k h))
    (c.store-4.ensures.lanes k h ∙ c.fourth_each-parity.ensures k h ∙ fourth_same _ _ _ _ _ _ _ _ _ _ _ _ (s.bit_0 k h) (s.bit_1 k h) (s.bit_2 k h) (t.bit_0 k h) (t.bit_1 k h) (t.bit_2 k h))
