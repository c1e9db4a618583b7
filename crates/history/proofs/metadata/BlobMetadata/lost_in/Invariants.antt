use Rattle.std.proofs.Common.{◌≡◌, ℕ, ◌<◌, ◌||◌, true}
use Rattle.std.specs.List.{list_any, list_all}
use Rattle.std.specs.BTreeMap.{is_at}
use Rattle.lrc_code.specs.Code.{is_lost}
use Rattle.sealed.specs.Blob.{pair_cmp}
use Rattle.history.specs.Metadata.{lost_of}
use Rattle.history.proofs.Keeping.{is_of}
use Rattle.history.proofs.metadata.BlobMetadata.lost_in.Given as goal

-- a fragment is lost if the loop has seen it or is still to see it, and the fragments ahead are of
-- this stripe
abbrev pub invariant-loop-f : goal.invariant-loop-f
invariant-loop-f l = record {
  told : (g : ℕ) → g < 16 → (is_lost l.lost g || list_any (is_at (pair_cmp (l.stripe, g))) l.f-iterator) ≡ lost_of l.self l.stripe g;
  ahead : list_all (is_of l.stripe) l.f-iterator ≡ true;
}
