-- `raster::counts::count_apart` meets its contract: seven words have the ones of one, twice those of two, four times those of two's carries.
use native.Mathlib.Omega.{arith}
use Rattle.raster.specs.Counts.{ones_apart}
use Rattle.raster.proofs.CountLaws.{apart_add}
use Rattle.raster.proofs.counts.count_apart.Goals as goal

pub returns : goal.returns
unfolding ones_apart
returns c =
    let a = c.args in
    let s = a.s.now in
    (omega (arith, apart_add s a.p 8 a.i 6 1, apart_add s a.p 8 a.i 3 3), omega arith)
