-- `raster::counts::add_apart` meets its contract.
use native.Mathlib.Omega.{arith}
use Rattle.raster.specs.Counts.{ones_apart}
use Rattle.raster.proofs.counts.add_apart.Goals as goal

pub returns : goal.returns
unfolding ones_apart
returns c = omega arith
