use Rattle.std.proofs.Common.{sym}
use Rattle.book.proofs.Lacking.{none_lacked, none_open}
use Rattle.book.proofs.stored_blob.StoredBlob.whole.Goals as goal

pub invariant_of-result : goal.invariant_of-result
invariant_of-result c = (sym (none_lacked c.args.sealed.value c.requires.0 c.requires.1), sym (none_open c.args.sealed.value c.requires.0 c.requires.1))
