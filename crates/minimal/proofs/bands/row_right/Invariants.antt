-- `minimal::bands::row_right` meets its contract. The invariant: the bytes from j on are blank.
use Prim.Native.Nat.{◌+◌}
use Rattle.minimal.specs.Bands.{Blank}
use Rattle.minimal.proofs.bands.row_right.Given as goal

abbrev pub invariant-loop-j : goal.invariant-loop-j
invariant-loop-j l = Blank (l.d + l.j) (l.d + l.r) l.plane
