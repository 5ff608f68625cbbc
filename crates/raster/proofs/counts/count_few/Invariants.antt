-- `raster::counts::count_few` meets its contract.
-- The invariants: n is the ones of the words so far, and then of all words and the bytes so far, at most 64 for each byte.
use mathlib.Core.Path.{◌≡◌}
use Prim.Native.Nat.{◌*◌, ◌+◌, ◌/◌, ◌≤◌}
use lib.ListN.{length, take}
use Rattle.morphology.specs.Image.{ones_of}
use Rattle.raster.proofs.counts.count_few.Given as goal

abbrev pub invariant-loop-w : goal.invariant-loop-w
invariant-loop-w l = (l.n ≡ ones_of (take (8 * l.w-index) l.s)) × (l.n ≤ 64 * (8 * l.w-index))

abbrev pub invariant-loop-b : goal.invariant-loop-b
invariant-loop-b l = (l.n ≡ ones_of (take (length l.s / 8 * 8) l.s) + ones_of (take l.b-index l.rest)) × (l.n ≤ 64 * (length l.s / 8 * 8 + l.b-index))
