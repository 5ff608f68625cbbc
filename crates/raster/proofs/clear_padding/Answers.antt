-- `raster::clear_padding` meets its contract.
use Rattle.std.proofs.Common.{arith, refl, length, ◌*◌, ◌-◌}
use Rattle.raster.proofs.PartLaws.{padding-row}
use Rattle.raster.proofs.clear_padding.Goals as goal

pub returns : goal.returns
returns c =
    let row = c.args.row.now in
    rw c.from.ensures (padding-row c.args.w (length row * 8 - c.args.w) row refl c.requires.0 c.requires.1 c.requires.2 (omega arith))
