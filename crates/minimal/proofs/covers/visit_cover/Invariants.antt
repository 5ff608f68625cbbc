-- `minimal::covers::visit_cover` meets its contract.
-- The invariant: the pixels of the rows before y are gone through, and all pass; those above the band are none.
use Rattle.std.proofs.Common.{◌*◌, true}
use Rattle.minimal.specs.Bands.{ink_at}
use Rattle.minimal.specs.Moves.{Done, below}
use Rattle.minimal.proofs.covers.visit_cover.Given as goal

abbrev pub invariant-loop-y : goal.invariant-loop-y
invariant-loop-y g l = Done g.V.Visit.task (below (l.y * l.fn.f.w) (ink_at l.fn.f.w l.fn.f.h l.plane)) l.i l.a l.initial.counters l.counters true
