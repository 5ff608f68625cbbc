-- `raster::clear_start` meets its contract.
use Rattle.raster.proofs.PartLaws.{started-row}
use Rattle.raster.proofs.clear_start.Goals as goal

pub returns : goal.returns
returns c = started-row c.args.k c.args.row.now c.requires.0 c.requires.1
