-- `margins::seen` meets its contract.
-- The invariant of both loops: the bytes of the first 4 k rows, or y rows, are seen, by the two parts together and then by one.
use Prim.Native.Nat.{◌*◌}
use lib.Bits.{bit_or}
use Rattle.margins.specs.Columns.{Seen}
use Rattle.margins.proofs.seen.Given as goal

abbrev pub invariant-loop-k : goal.invariant-loop-k
invariant-loop-k l = Seen l.s l.r (4 * l.k) l.c (bit_or l.v l.u)

abbrev pub invariant-loop-y : goal.invariant-loop-y
invariant-loop-y l = Seen l.s l.r l.y l.c l.v
