-- `label_read::greatest_below` meets its contract.
-- The invariant: m is the largest of the labels before b that is below v.
use mathlib.Core.Path.{◌≡◌}
use lib.ListN.{take}
use Rattle.label_read.specs.Points.{greatest_below}
use Rattle.label_read.proofs.greatest_below.Given as goal

abbrev pub invariant-loop-b : goal.invariant-loop-b
invariant-loop-b l = l.m ≡ greatest_below l.v (take l.b-index l.row)
