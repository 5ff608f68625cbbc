-- `raster::join_rows` meets its contract.
-- The invariant: to each of the first i bytes that of the source, inverted or not, is joined.
use lib.Bits.{bit_xor}
use lib.ListN.{get_or}
use Rattle.raster.specs.Rows.{join_byte}
use Rattle.raster.proofs.LoopLaws.{Mapped}
use Rattle.raster.proofs.join_rows.Given as goal

abbrev pub invariant-loop-i : goal.invariant-loop-i
invariant-loop-i l = Mapped (λ j. join_byte l.fn.how.dilating (get_or l.initial.dst j 0) (bit_xor (get_or l.src j 0) l.m)) l.initial.dst l.dst l.i
