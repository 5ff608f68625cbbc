-- `sections::words::Write::empty_runs` meets its contract. The first k runs are written.
use mathlib.Core.Bool.{true}
use Prim.Native.Nat.{◌*◌, ◌+◌}
use lib.ListN.{replicate}
use Rattle.sections.specs.Pens.{Marked}
use Rattle.sections.proofs.words.WritePen.empty_runs.Given as goal

abbrev pub invariant-loop-k : goal.invariant-loop-k
invariant-loop-k l = Marked true (replicate l.k 0) l.initial.out l.out l.at (l.at + 2 * l.k)
