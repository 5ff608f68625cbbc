-- `numbers::read_counters` meets its contract. The invariant: the first i counters are read.
use Rattle.raster.proofs.LoopLaws.{Mapped}
use Rattle.numbers.proofs.NumberLaws.{pair_at}
use Rattle.numbers.proofs.read_counters.Given as goal

abbrev pub invariant-loop-i : goal.invariant-loop-i
invariant-loop-i l = Mapped (pair_at l.bytes) l.initial.counters l.counters l.i
