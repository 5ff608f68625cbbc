-- `thinning::thin_pass` meets its contract. The invariant: the image is thinned by the masks of the house set before this one.
use Rattle.thinning.specs.Passes.{Leaves}
use Rattle.thinning.proofs.ThinTurns.{masks_below}
use Rattle.thinning.proofs.thin_pass.Given as goal

abbrev pub invariant-loop-mask : goal.invariant-loop-mask
invariant-loop-mask l = Leaves l.fn.f.p (masks_below l.fn.f.w l.fn.f.h l.mask-index l.initial.image) l.image l.initial.work l.work
