-- `seeking::place_masked` meets its contract. The pixels above some height are walked, the free ones below it are in `free`, `count` of them;
-- `free` falls. A turn goes past the next point, and takes the run after it.
use mathlib.Core.Path.{◌≡◌}
use lib.Count.{ones}
use Rattle.coding.specs.Symbols.{symbols_of}
use Rattle.seeking.proofs.MaskedLaws.{MaskWalk}
use Rattle.seeking.proofs.place_masked.Given as goal

abbrev pub invariant-loop-run : goal.invariant-loop-run
invariant-loop-run l = MaskWalk (symbols_of l.stream) l.limit l.m l.mask l.fn.run.left l.fn.run.at l.points l.free l.run.left l.run.at × (l.count ≡ ones l.free)

abbrev pub decreases-loop-run : goal.decreases-loop-run
decreases-loop-run l = l.free
