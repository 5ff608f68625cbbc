-- `thinning::thin_step` meets its contract. The hits taken out of the image are one thinning step.
use Rattle.iteration.proofs.StepLaws.{sheet-bytes}
use Rattle.thinning.proofs.PassLaws.{step-leaves}
use Rattle.thinning.proofs.thin_step.Goals as goal

pub returns : goal.returns
returns c =
    let a = c.args in
    step-leaves a.f.w a.f.h a.f.p (a.mask.fg, a.mask.bg) a.image.now _ a.work.now _ (sheet-bytes c.args.f.sheet) c.requires.0 c.requires.1 c.requires.3
    (λ i. (c.slice_known-4-1.given i).fits) c.hit_plane.ensures c.subtract.ensures
