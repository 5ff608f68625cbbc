-- `raster::same_rows` meets its contract.
-- The invariant: differ is 0 exactly where the first i bytes of the two rows are the same.
use mathlib.Core.Path.{◌≡◌}
use Prim.Native.Nat.{◌+◌}
use lib.Dec.{eqb}
use lib.ListN.{get_or}
use Rattle.morphology.specs.Lists.{every_of, up_to}
use Rattle.raster.proofs.same_rows.Given as goal

abbrev pub invariant-loop-i : goal.invariant-loop-i
invariant-loop-i l = eqb l.differ 0 ≡ every_of (λ i'. eqb (get_or l.plane (l.a + i') 0) (get_or l.plane (l.b + i') 0)) (up_to l.i)
