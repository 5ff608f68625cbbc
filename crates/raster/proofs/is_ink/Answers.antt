-- `raster::is_ink` meets its contract.
use Rattle.raster.proofs.ByteLaws.{bit_test}
use Rattle.raster.proofs.is_ink.Goals as goal

pub returns : goal.returns
returns c = bit_test c.args.byte c.args.k c.requires
