-- `reconstruction::grow` meets its contract. The plane after the dilation is clean and long enough for the points to be joined, and both together are `grown`.
use native.Mathlib.Omega.{arith}
use Rattle.morphology.specs.Element.{offsets}
use Rattle.morphology.specs.Image.{image_set}
use Rattle.morphology.proofs.ImageLaws.{image_on}
use Rattle.iteration.proofs.StepLaws.{dilated_on, sheet-bytes}
use Rattle.reconstruction.proofs.GatherLaws.{joined-first, part-clean, taken}
use Rattle.reconstruction.proofs.grow.Goals as goal

pub add_points-requires : goal.add_points-requires
add_points-requires c =
    let a = c.args in
    let e = c.dilate_times-clipped.ensures.plane in
    let q = sheet-bytes c.requires.sheet in
    let on = dilated_on a.f.w a.f.h (offsets a.element) 1 (image_set a.f.w a.f.h a.work.now) (image_on a.f.w a.f.h a.work.now) in (
      omega (arith, c.requires.label),
      c.requires.places,
      omega (arith, c.requires.sheet.plane, taken a.f.w a.f.h a.f.p q _ on a.work.now _ c.requires.planes e),
      part-clean a.f.w a.f.h a.f.p q _ on a.work.now _ c.requires.planes e,
      c.requires.tops,
      c.requires.rows,
    )

pub returns-clause-work : goal.returns-clause-work
returns-clause-work c =
    let a = c.args in
    let on = dilated_on a.f.w a.f.h (offsets a.element) 1 (image_set a.f.w a.f.h a.work.now) (image_on a.f.w a.f.h a.work.now) in
    joined-first a.f.w a.f.h a.f.p (sheet-bytes c.requires.sheet) _ on a.work.now _ c.requires.planes c.dilate_times-clipped.ensures.plane a.labels.now
    a.v _ c.add_points.ensures.plane
