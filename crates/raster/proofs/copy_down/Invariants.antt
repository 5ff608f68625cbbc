-- `raster::copy_down` meets its contract.
-- The invariant: the first i bytes are those from p on.
use Prim.Native.Nat.{◌+◌}
use lib.ListN.{get_or}
use Rattle.raster.proofs.LoopLaws.{Mapped}
use Rattle.raster.proofs.copy_down.Given as goal

abbrev pub invariant-loop-i : goal.invariant-loop-i
invariant-loop-i l = Mapped (λ j. get_or l.initial.work (l.p + j) 0) l.initial.work l.work l.i
