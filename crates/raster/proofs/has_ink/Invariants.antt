-- `raster::has_ink` meets its contract.
-- The invariant: seen is not 0 exactly where one of the bytes so far is not.
use mathlib.Core.Bool.{not}
use mathlib.Core.Path.{◌≡◌}
use lib.Dec.{eqb}
use lib.ListN.{take}
use Rattle.morphology.specs.Lists.{some_of}
use Rattle.raster.proofs.has_ink.Given as goal

abbrev pub invariant-loop-b : goal.invariant-loop-b
invariant-loop-b l = not (eqb l.seen 0) ≡ some_of (λ b. not (eqb b 0)) (take l.b-index l.s)
