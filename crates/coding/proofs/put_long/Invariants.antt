-- `coding::put_long` meets its contract. The digits of what is left are to be written, those below are.
use Rattle.coding.proofs.StoreLaws.{Half}
use Rattle.coding.proofs.put_long.Given as goal

abbrev pub invariant-loop-k : goal.invariant-loop-k
invariant-loop-k l = Half l.initial.stream l.stream l.j l.n l.left l.k
