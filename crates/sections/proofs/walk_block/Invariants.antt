-- `sections::walk_block` meets its contract. The invariant: the pen has walked the first y rows.
use Prim.Native.Nat.{◌*◌}
use Rattle.sections.specs.Pens.{PenWalked}
use Rattle.sections.proofs.PlaneLaws.{plane_kinds}
use Rattle.sections.proofs.walk_block.Given as goal

abbrev pub invariant-loop-y : goal.invariant-loop-y
invariant-loop-y g l = PenWalked g.P.Pen.down (plane_kinds l.fn.f.w l.fn.f.h l.q l.s (l.y * l.fn.f.w)) l.initial.out l.out l.fn.pen.at l.fn.pen.run l.pen.at l.pen.run
