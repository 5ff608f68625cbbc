-- `raster::is_clean` meets its contract.
-- The invariant: the padding of each of the first y rows is 0.
use mathlib.Core.Bool.{true}
use mathlib.Core.Path.{◌≡◌}
use Rattle.morphology.specs.Lists.{every_of, up_to}
use Rattle.raster.proofs.BufferLaws.{last_clean}
use Rattle.raster.proofs.is_clean.Given as goal

abbrev pub invariant-loop-y : goal.invariant-loop-y
invariant-loop-y l = every_of (last_clean l.s l.r l.m) (up_to l.y) ≡ true
