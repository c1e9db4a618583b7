use Rattle.history.proofs.Keeping.{open_known}
use Rattle.history.proofs.metadata.BlobMetadata.is_open.Goals as goal

pub returns : goal.returns
returns c = open_known c.args.self.now.code _ _ c.args.f c.is_open_in.result c.requires c.is_open_in.ensures c.lost_in.ensures
