-- `iteration::erode_step` meets its contract. The erosion of the first plane, copied down, is the next first plane.
use native.Mathlib.Omega.{arith}
use Rattle.morphology.proofs.ElementLaws.{element-bit}
use Rattle.iteration.proofs.StepLaws.{sheet-bytes, step_done}
use Rattle.iteration.proofs.erode_step.Goals as goal

pub erode_plane-requires : goal.erode_plane-requires
erode_plane-requires c = (
  omega (arith, c.args.f.sheet.plane),
  omega (arith, c.args.f.sheet.plane, c.requires.0),
  element-bit c.args.element c.requires.1,
  c.requires.2,
)

pub returns : goal.returns
returns c =
    let a = c.args in
    let v = c.erode_plane.new.work in
    step_done a.f.w a.f.h a.f.p _ a.work.now v _ (sheet-bytes c.args.f.sheet) c.requires.0 c.erode_plane.ensures
    c.copy_down.ensures
