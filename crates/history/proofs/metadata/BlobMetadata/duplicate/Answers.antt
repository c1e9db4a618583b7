use Rattle.std.specs.Prelude.{IfOk}
use Rattle.std.specs.BTreeSet.{IsFromIterResult}
use Rattle.std.proofs.lemmas.Iterator.Adapters.{fact_from_collect}
use Rattle.std.proofs.lemmas.Iterator.Consumers.{YieldsList-from_copied, YieldsList-from_rest, YieldsList-at}
use Rattle.sealed.specs.Blob.{pair_cmp}
use Rattle.history.proofs.Rising.{collected}
use Rattle.history.proofs.metadata.BlobMetadata.duplicate.Goals as goal

pub returns-clause-copy : goal.returns-clause-copy
returns-clause-copy c =
    let k = c.args.self.now in
    let chain = YieldsList-from_copied (YieldsList-at c.copied.ensures.source (YieldsList-from_rest k.lost.keys c.iter.ensures.rest)) in
    let made : IfOk c.collect.result (IsFromIterResult pair_cmp k.lost.keys) = fact_from_collect (IsFromIterResult pair_cmp) c.collect.result c.collect.ensures.ran chain in
    let lost = collected k.lost.keys c.in_ok-collect.field-0 c.iter.ensures.ordered (rw c.in_ok-collect.was at made) in
    λ i. record { version = k.version; len = k.len; code = k.code; lost = record { keys = lost i } }
