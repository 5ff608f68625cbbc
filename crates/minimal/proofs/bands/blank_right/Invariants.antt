-- `minimal::bands::blank_right` meets its contract.
-- The invariant: in the rows from `from` up to y the bytes from `right` on are blank.
use Prim.Native.Nat.{◌≤◌}
use Rattle.minimal.specs.Bands.{Strip}
use Rattle.minimal.proofs.bands.blank_right.Given as goal

abbrev pub invariant-loop-y : goal.invariant-loop-y
invariant-loop-y l = (l.left ≤ l.right) × (l.right ≤ l.r) × Strip l.r l.from l.y l.right l.r l.plane
