-- `minimal::bands::row_left` meets its contract. The invariant: the first j bytes are blank.
use Prim.Native.Nat.{◌+◌}
use Rattle.minimal.specs.Bands.{Blank}
use Rattle.minimal.proofs.bands.row_left.Given as goal

abbrev pub invariant-loop-j : goal.invariant-loop-j
invariant-loop-j l = Blank l.d (l.d + l.j) l.plane
