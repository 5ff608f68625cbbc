use native.Mathlib.Omega.{arith}
use Rattle.raster.proofs.RowLaws.{row_subtracted}
use Rattle.raster.proofs.subtract.Goals as goal

pub returns : goal.returns
returns c = row_subtracted c.args.src.now c.args.dst.now c.loop-i.dst c.loop-i.i (omega arith) c.loop-i.invariant
