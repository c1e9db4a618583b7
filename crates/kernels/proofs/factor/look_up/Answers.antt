use Rattle.std.proofs.Common.{refl, ◌/◌}
use Rattle.gf256.proofs.LanesLemmas.{lows_ok, highs_ok, length-looked_up, get_or-looked_up, lane-lt}
use Rattle.kernels.specs.declared.lanes.TheConstants.{LANES}
use Rattle.kernels.proofs.factor.look_up.Goals as goal

pub swizzle : goal.swizzle
swizzle c = lows_ok LANES (LANES / 16) refl c.args.bytes c.fits-bytes.0 c.fits-bytes.1

pub swizzle-2 : goal.swizzle-2
swizzle-2 c = highs_ok LANES (LANES / 16) refl c.args.bytes c.fits-bytes.0 c.fits-bytes.1

pub returns-clause-len : goal.returns-clause-len
returns-clause-len c = length-looked_up LANES (LANES / 16) refl c.args.bytes c.fits-bytes.0 c.fits-bytes.1 c.args.low c.args.high

pub returns-clause-lanes : goal.returns-clause-lanes
returns-clause-lanes c = get_or-looked_up LANES (LANES / 16) refl c.args.bytes c.fits-bytes.0 c.fits-bytes.1 c.args.low c.args.high

pub returns-clause-bytes : goal.returns-clause-bytes
returns-clause-bytes c = lane-lt LANES (LANES / 16) refl c.args.bytes c.fits-bytes.0 c.fits-bytes.1
