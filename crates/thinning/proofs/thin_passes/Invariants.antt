-- `thinning::thin_passes` meets its contract.
-- The invariant: `Running`, that the image is what so many passes leave and has the points left. The measure is the points left, which a pass that
-- removes none ends.
use Rattle.thinning.proofs.EndLaws.{Running}
use Rattle.thinning.proofs.thin_passes.Given as goal

abbrev pub invariant-loop-left : goal.invariant-loop-left
invariant-loop-left l = Running l.fn.f.w l.fn.f.h l.fn.f.p l.before l.initial.image l.image l.initial.work l.work l.passes l.left

abbrev pub decreases-loop-left : goal.decreases-loop-left
decreases-loop-left l = l.left
