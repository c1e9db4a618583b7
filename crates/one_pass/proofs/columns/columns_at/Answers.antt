use Rattle.std.proofs.Common.{ℕ, ◌+◌, ◌<◌, bit_xor, map, ap, ap₂, ◌∙◌, arith}
use lib.Lanes.{Each1}
use Rattle.kernels.specs.Lists.{bytes_at}
use Rattle.kernels.proofs.GroupLemmas.{twelve, third_same, fourth_same}
use Rattle.one_pass.proofs.Parities.{parity_by_groups}
use Rattle.kernels.specs.declared.lanes.TheConstants.{LANES}
use Rattle.one_pass.proofs.columns.columns_at.Goals as goal

fits : (c : goal.After-fourth_of) (k : ℕ) → k < LANES → Each1 (λ x. x < 256) (twelve (map (λ s. s.now) c.args.sources.now) (c.args.at + k))
fits c k h =
    let s = c.sums_of-s.ensures in
    let t = c.sums_of-t.ensures in
    (s.bytes 0 k (omega arith) h, (s.bytes 1 k (omega arith) h, (s.bytes 2 k (omega arith) h, (s.bytes 3 k (omega arith) h, (s.bytes 4 k (omega arith) h, (s.bytes 5 k (omega arith) h, (t.bytes 0 k (omega arith) h, (t.bytes 1 k (omega arith) h, (t.bytes 2 k (omega arith) h, (t.bytes 3 k (omega arith) h, (t.bytes 4 k (omega arith) h, (t.bytes 5 k (omega arith) h, (tt {0})))))))))))))

pub returns-clause-first : goal.returns-clause-first
returns-clause-first c k h =
    c.sum_2.ensures k h
    ∙ ap₂ bit_xor (c.sums_of-s.ensures.whole k h ∙ parity_by_groups (map (λ s. s.now) c.args.sources.now) (c.args.at + k) (fits c k h) 0 (omega arith)) (c.load_from.ensures.lanes k h)

pub returns-clause-second : goal.returns-clause-second
returns-clause-second c wanted k h =
    c.second_of.ensures wanted k h
    ∙ ap (λ x. bit_xor x (bytes_at (map (λ s. s.now) c.args.sources.now) (c.args.at + k) 13))
    (c.sums_of-t.ensures.whole k h ∙ parity_by_groups (map (λ s. s.now) c.args.sources.now) (c.args.at + k) (fits c k h) 1 (omega arith))

pub returns-clause-third : goal.returns-clause-third
returns-clause-third c wanted k h =
    let s = c.sums_of-s.ensures in
    let t = c.sums_of-t.ensures in
    c.third_of.ensures wanted k h
    ∙ ap (λ x. bit_xor x (bytes_at (map (λ s. s.now) c.args.sources.now) (c.args.at + k) 14))
    (third_same _ _ _ _ _ _ _ _ _ _ _ _ (s.bit_0 k h) (s.bit_1 k h) (s.bit_2 k h) (t.bit_0 k h) (t.bit_1 k h) (t.bit_2 k h)
    ∙ parity_by_groups (map (λ s. s.now) c.args.sources.now) (c.args.at + k) (fits c k h) 2 (omega arith))

pub returns-clause-fourth : goal.returns-clause-fourth
returns-clause-fourth c wanted k h =
    let s = c.sums_of-s.ensures in
    let t = c.sums_of-t.ensures in
    c.fourth_of.ensures wanted k h
    ∙ ap (λ x. bit_xor x (bytes_at (map (λ s. s.now) c.args.sources.now) (c.args.at + k) 15))
    (fourth_same _ _ _ _ _ _ _ _ _ _ _ _ (s.bit_0 k h) (s.bit_1 k h) (s.bit_2 k h) (t.bit_0 k h) (t.bit_1 k h) (t.bit_2 k h)
    ∙ parity_by_groups (map (λ s. s.now) c.args.sources.now) (c.args.at + k) (fits c k h) 3 (omega arith))
