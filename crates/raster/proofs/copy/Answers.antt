use native.Mathlib.Omega.{arith}
use Rattle.raster.proofs.BufferLaws.{copied}
use Rattle.raster.proofs.copy.Goals as goal

pub returns : goal.returns
returns c = copied c.args.src.now c.args.dst.now c.loop-i.dst c.loop-i.i c.requires (omega arith) c.loop-i.invariant
