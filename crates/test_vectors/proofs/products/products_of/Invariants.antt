use Rattle.std.proofs.Common.{◌≡◌, ◌<◌, ℕ, length, slice_index}
use Rattle.gf256.specs.Field.{product}
use Rattle.test_vectors.proofs.products.products_of.Given as goal

abbrev pub invariant-loop-b : goal.invariant-loop-b
invariant-loop-b l = record {
  count : length l.products ≡ 256;
  each : (k : ℕ) → k < l.b → slice_index l.products k ≡ product l.a k;
}
