-- `sections::walk_row` meets its contract. The invariant: the pen has walked the first k words of pixels.
use Prim.Native.Nat.{◌*◌}
use Rattle.sections.specs.Pens.{PenWalked}
use Rattle.sections.specs.Words.{row_kinds}
use Rattle.sections.proofs.walk_row.Given as goal

abbrev pub invariant-loop-k : goal.invariant-loop-k
invariant-loop-k g l = PenWalked g.P.Pen.down (row_kinds l.s l.a l.b 0 (64 * l.k)) l.initial.out l.out l.fn.pen.at l.fn.pen.run l.pen.at l.pen.run
