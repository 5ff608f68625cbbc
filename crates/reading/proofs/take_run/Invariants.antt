-- `reading::take_run` meets its contract. The digits of a numeral before the next symbol are read, they stand for v, and the run is what they and the rest
-- give; that symbol is not far from `at`: at + v + 1 or less.
use Rattle.coding.specs.Symbols.{symbols_of}
use Rattle.reading.proofs.TakeLaws.{Taken}
use Rattle.reading.proofs.take_run.Given as goal

abbrev pub invariant-loop-j : goal.invariant-loop-j
invariant-loop-j l = Taken (symbols_of l.stream) l.at l.limit l.v l.j-iterator.start
