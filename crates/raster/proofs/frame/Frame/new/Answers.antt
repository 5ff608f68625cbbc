-- `raster::Frame::new` meets its contract.
use Rattle.std.proofs.Common.{arith, refl}
use Rattle.raster.proofs.FrameLaws.{plane-few}
use Rattle.raster.proofs.frame.Frame.new.Goals as goal

pub overflow_mul-result : goal.overflow_mul-result
overflow_mul-result c = omega (arith, plane-few c.requires)

pub invariant_of-result : goal.invariant_of-result
invariant_of-result c = record { sheet = record { frame = c.requires; plane = refl } }
