-- `containment::has_wild` meets its contract.
-- The invariant: the limits of the columns stand, and no label of the first y rows leaves the sheet.
use mathlib.Core.Bool.{false}
use mathlib.Core.Path.{◌≡◌}
use Rattle.morphology.specs.Element.{offsets}
use Rattle.morphology.specs.Lists.{some_of, up_to}
use Rattle.containment.proofs.WildLaws.{Limited, row_wild}
use Rattle.containment.proofs.has_wild.Given as goal

abbrev pub invariant-loop-y : goal.invariant-loop-y
invariant-loop-y l = Limited l.w l.h (offsets l.element) l.labels l.left l.right l.up l.down l.limits × (some_of (row_wild l.w l.h (offsets l.element) l.labels) (up_to l.y) ≡ false)
