use Rattle.std.proofs.Common.{refl}
use Rattle.store_c.specs.Buffers.{reserved}
use Rattle.store_c.proofs.buffers.reserve.Goals as goal

pub returns-in-Ok : goal.returns-in-Ok
returns-in-Ok c = reserved c.in-Ok.bytes refl (c.in-Ok.ensures.items_if_clones_equal (λ y same. same)) c.fill.ensures
