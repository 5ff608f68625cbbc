-- `iteration::dilate_step` meets its contract. The dilation of the first plane, copied down, is the next first plane.
use native.Mathlib.Omega.{arith}
use Rattle.morphology.proofs.ElementLaws.{element-bit}
use Rattle.iteration.proofs.StepLaws.{sheet-bytes, step_done}
use Rattle.iteration.proofs.dilate_step.Goals as goal

pub dilate_plane-clipped-requires : goal.dilate_plane-clipped-requires
dilate_plane-clipped-requires c =
    (omega (arith, c.args.f.sheet.plane), omega (arith, c.args.f.sheet.plane, c.requires.0), element-bit _ c.requires.1, c.requires.2)

pub returns-clause-plane : goal.returns-clause-plane
returns-clause-plane c =
    let a = c.args in
    let v = c.dilate_plane-clipped.new.work in
    step_done a.f.w a.f.h a.f.p _ a.work.now v _ (sheet-bytes c.args.f.sheet) c.requires.0 c.dilate_plane-clipped.ensures.plane
    c.copy_down.ensures
