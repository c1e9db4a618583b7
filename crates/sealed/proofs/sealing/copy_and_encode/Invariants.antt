use Rattle.std.proofs.Common.{◌≡◌, [], ◌*◌, length}
use Rattle.sealed.specs.Layout.{stripe_size}
use Rattle.sealed.specs.Packed.{ArePackedOf}
use Rattle.sealed.proofs.sealing.copy_and_encode.Given as goal

abbrev pub invariant-loop-j : goal.invariant-loop-j
invariant-loop-j l = record {
  blob_long : length l.blob.items ≡ stripe_size l.code l.w * l.j;
  parities_long : length l.parities.items ≡ 4 * l.w * l.j;
  made : ArePackedOf l.code l.w l.bytes l.blob.items [] l.parities.items l.j;
}
