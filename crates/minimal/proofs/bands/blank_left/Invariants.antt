-- `minimal::bands::blank_left` meets its contract.
-- The invariant: in the rows from `from` up to y the first `left` bytes are blank.
use Prim.Native.Nat.{◌≤◌}
use Rattle.minimal.specs.Bands.{Strip}
use Rattle.minimal.proofs.bands.blank_left.Given as goal

abbrev pub invariant-loop-y : goal.invariant-loop-y
invariant-loop-y l = (l.left ≤ l.r) × Strip l.r l.from l.y 0 l.left l.plane
