-- `raster::copy_up` meets its contract.
-- The invariant: the i bytes from p on are the first i.
use Rattle.raster.proofs.PartLaws.{PartIs}
use Rattle.raster.proofs.copy_up.Given as goal

abbrev pub invariant-loop-i : goal.invariant-loop-i
invariant-loop-i l = PartIs l.p l.i l.initial.work l.initial.work l.work
