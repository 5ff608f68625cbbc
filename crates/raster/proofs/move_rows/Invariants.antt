-- `raster::move_rows` meets its contract.
-- The invariant: each of the first i bytes is moved.
use Rattle.raster.proofs.LoopLaws.{Mapped}
use Rattle.raster.proofs.RowLaws.{moved_at}
use Rattle.raster.proofs.move_rows.Given as goal

abbrev pub invariant-loop-i : goal.invariant-loop-i
invariant-loop-i g l = Mapped (moved_at l.buf l.o l.d) l.initial.dst l.dst l.i
