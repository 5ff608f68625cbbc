-- `containment::column_limits` meets its contract.
-- The invariant: the first x limits are those of their columns.
use Prim.Native.Nat.{◌<◌, ℕ}
use lib.ListN.{get_or}
use Rattle.containment.specs.Wild.{Limit, room_at}
use Rattle.containment.proofs.column_limits.Given as goal

abbrev pub invariant-loop-x : goal.invariant-loop-x
invariant-loop-x l = (j : ℕ) → j < l.x → Limit (room_at l.w l.lo l.hi j) (get_or l.limits j 0)
