-- `neighbours::join_plane` meets its contract.
-- The invariant: the element is joined to the first y rows. The measure is what is left of the h rows.
use Prim.Native.Nat.{◌-◌, ◌≤◌}
use Rattle.neighbours.specs.Neighbours.{PlaneJoined, neighbours, source_bit}
use Rattle.neighbours.proofs.join_plane.Given as goal

abbrev pub invariant-loop-y : goal.invariant-loop-y
invariant-loop-y l = (l.y ≤ l.fn.f.h) × PlaneJoined l.fn.how.dilating 0 l.fn.f.r l.y l.initial.out l.out (λ y' x. neighbours l.fn.how.dilating l.element (source_bit l.fn.how.inverse l.image l.fn.f.r l.fn.f.h) x y')

abbrev pub decreases-loop-y : goal.decreases-loop-y
decreases-loop-y l = l.fn.f.h - l.y
