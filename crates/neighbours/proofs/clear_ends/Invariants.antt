-- `neighbours::clear_ends` meets its contract.
-- The invariant: the first y rows are cleared.
use mathlib.Core.Bool.{◌&&◌}
use Prim.Native.Nat.{◌*◌, ◌+◌}
use Rattle.raster.specs.Rows.{PlaneIs, row_bit}
use Rattle.neighbours.specs.Neighbours.{is_within}
use Rattle.neighbours.proofs.clear_ends.Given as goal

abbrev pub invariant-loop-y : goal.invariant-loop-y
invariant-loop-y l = PlaneIs 0 l.r l.y l.initial.strip l.strip (λ y' x. row_bit l.initial.strip (8 * (0 + y' * l.r) + x) && is_within l.r (x + l.s))
