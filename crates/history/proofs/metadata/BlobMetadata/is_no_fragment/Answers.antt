use Rattle.history.proofs.Keeping.{by_fragment}
use Rattle.history.proofs.metadata.BlobMetadata.is_no_fragment.Goals as goal

pub returns : goal.returns
returns c = by_fragment c.args.self.now.code c.args.width c.args.self.now.len c.args.stripe c.args.fragment c.has_fragment.result c.has_fragment.ensures
