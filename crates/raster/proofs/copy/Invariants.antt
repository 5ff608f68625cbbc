-- `raster::copy` meets its contract.
-- The invariant: the first i bytes are copied.
use lib.ListN.{get_or}
use Rattle.raster.proofs.LoopLaws.{Mapped}
use Rattle.raster.proofs.copy.Given as goal

abbrev pub invariant-loop-i : goal.invariant-loop-i
invariant-loop-i l = Mapped (λ j. get_or l.src j 0) l.initial.dst l.dst l.i
