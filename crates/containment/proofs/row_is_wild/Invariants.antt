-- `containment::row_is_wild` meets its contract.
-- The invariant: wild tells whether one of the labels before x is over its limit.
use mathlib.Core.Path.{◌≡◌}
use lib.ListN.{get_or}
use Rattle.morphology.specs.Lists.{some_of, up_to}
use Rattle.containment.specs.Wild.{over}
use Rattle.containment.proofs.row_is_wild.Given as goal

abbrev pub invariant-loop-x : goal.invariant-loop-x
invariant-loop-x l = l.wild ≡ some_of (λ i. over (get_or l.row i 0) (get_or l.limits i 0) l.limit) (up_to l.x)
