-- `raster::subtract` meets its contract.
-- The invariant: from each of the first i bytes that of the source is taken away.
use lib.Bits.{bit_and, bit_xor}
use lib.ListN.{get_or}
use Rattle.raster.proofs.LoopLaws.{Mapped}
use Rattle.raster.proofs.subtract.Given as goal

abbrev pub invariant-loop-i : goal.invariant-loop-i
invariant-loop-i l = Mapped (λ j. bit_and (get_or l.initial.dst j 0) (bit_xor (get_or l.src j 0) 255)) l.initial.dst l.dst l.i
