-- `label_read::greatest` meets its contract.
-- The invariant: m is the largest of the labels before b.
use mathlib.Core.Path.{◌≡◌}
use lib.ListN.{take}
use Rattle.morphology.specs.Lists.{greatest}
use Rattle.label_read.proofs.greatest.Given as goal

abbrev pub invariant-loop-b : goal.invariant-loop-b
invariant-loop-b l = l.m ≡ greatest (take l.b-index l.labels)
