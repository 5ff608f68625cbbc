-- `skeleton::fold_into`: the first plane holds X, then X eroded, then that dilated, which stays on the frame as there are no more dilations than erosions.
use mathlib.Core.Bool.{Bool}
use mathlib.Core.Path.{◌∙◌, ap, sym}
use native.Mathlib.Omega.{arith}
use Rattle.morphology.specs.Element.{offsets}
use Rattle.morphology.specs.Falls.{falls_off}
use Rattle.morphology.specs.Image.{image_set, pack}
use Rattle.morphology.specs.Morphology.{dilate, erode, times}
use Rattle.morphology.specs.Point.{Point}
use Rattle.morphology.proofs.DecomposeLaws.{eroded_on}
use Rattle.morphology.proofs.ElementLaws.{element}
use Rattle.morphology.proofs.FallsLaws.{falls_on}
use Rattle.morphology.proofs.ImageLaws.{image_on}
use Rattle.iteration.proofs.StepLaws.{first_as, first-clean, first-image, folded-first, folded-stays, loaded, sheet-bytes, wrote}
use Rattle.skeleton.proofs.fold_into.Goals as goal

pub erode_times-requires : goal.erode_times-requires
erode_times-requires c =
    let a = c.args in
    let k = c.args.f.sheet in
    let q = sheet-bytes k in
    let v = loaded a.f.w a.f.h a.f.p a.image.now a.out.now a.work.now _ q c.requires.0 c.copy.ensures in
    (omega (arith, v.size, c.requires.0.work, q), c.requires.1, v.clean)

pub dilate_times-clipped-requires : goal.dilate_times-clipped-requires
dilate_times-clipped-requires c =
    let a = c.args in
    let k = c.args.f.sheet in
    let q = sheet-bytes k in
    let v = loaded a.f.w a.f.h a.f.p a.image.now a.out.now a.work.now _ q c.requires.0 c.copy.ensures in
    let m = c.erode_times.ensures in
    let el = element a.element c.requires.1 in (
      omega (arith, v.size, m.size, c.requires.0.work, q),
      c.requires.1,
      first-clean q (eroded_on a.f.w a.f.h (offsets a.element) el _ (image_on a.f.w a.f.h _) a.erosions) m,
    )

pub returns : goal.returns
returns c =
    let a = c.args in
    let p = a.f.p in
    let q = sheet-bytes c.args.f.sheet in
    let v = loaded a.f.w a.f.h p a.image.now a.out.now a.work.now _ q c.requires.0 c.copy.ensures in
    let B = offsets a.element in
    let X = image_set a.f.w a.f.h a.image.now in
    let on = image_on a.f.w a.f.h a.image.now in
    let m = first_as (ap (λ (Y : Point → Bool). pack a.f.w a.f.h (erode (times B a.erosions) Y)) v.set) c.erode_times.ensures in
    let o = eroded_on a.f.w a.f.h B (element a.element c.requires.1) X on a.erosions in
    let stays = folded-stays a.f.w a.f.h a.element a.erosions a.dilations c.requires.1 X c.requires.2 on in
    record {
      image =
          wrote a.f.w a.f.h p _ (dilate (times B a.dilations) (erode (times B a.erosions) X)) a.image.now a.work.now _ _ _ _ q
          (falls_on a.f.w a.f.h (times B a.dilations) (erode (times B a.erosions) X) o stays) (c.requires.0.image ∙ sym q) c.copy.ensures
          (folded-first a.f.w a.f.h p a.element a.erosions a.dilations c.requires.1 X _ _ _ q on stays m c.dilate_times-clipped.ensures.plane)
          c.hand_out.ensures;
      clipped = c.dilate_times-clipped.ensures.clipped ∙ ap (falls_off a.f.w a.f.h (times B a.dilations)) (first-image q o m) ∙ stays;
    }
