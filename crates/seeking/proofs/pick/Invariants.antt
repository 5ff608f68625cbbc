-- `seeking::pick` meets its contract. The free pixels below some height are in `rest`; the highest of them, one for each turn to come, and those above that
-- height are the k that come before the one sought.
use Prim.Native.Nat.{◌-◌}
use Rattle.seeking.proofs.BarLaws.{Picking}
use Rattle.seeking.proofs.pick.Given as goal

abbrev pub invariant-loop : goal.invariant-loop
invariant-loop l = Picking l.free l.k l.rest (l.k - l.counter)
