-- `minimal::covers::visit_row` meets its contract. The invariant: the pixels before byte j are gone through, and all pass; before `left` there are none.
use Rattle.std.proofs.Common.{◌*◌, ◌+◌, true}
use Rattle.raster.specs.Rows.{row_bit}
use Rattle.minimal.specs.Moves.{Done, below}
use Rattle.minimal.proofs.covers.visit_row.Given as goal

abbrev pub invariant-loop-j : goal.invariant-loop-j
invariant-loop-j g l = Done g.V.Visit.task (below (8 * l.j) (λ k. row_bit l.plane (8 * l.d + k))) l.at l.a l.initial.counters l.counters true
