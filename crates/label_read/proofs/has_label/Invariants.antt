-- `label_read::has_label` meets its contract.
-- The invariant: seen tells whether one of the labels before b is v.
use mathlib.Core.Path.{◌≡◌}
use lib.Dec.{eqb}
use lib.ListN.{take}
use Rattle.morphology.specs.Lists.{some_of}
use Rattle.label_read.proofs.has_label.Given as goal

abbrev pub invariant-loop-b : goal.invariant-loop-b
invariant-loop-b l = l.seen ≡ some_of (λ b. eqb b l.v) (take l.b-index l.row)
