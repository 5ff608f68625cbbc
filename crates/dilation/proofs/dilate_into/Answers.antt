-- `dilation::dilate_into` meets its contract: the image in the first plane, dilated there, is handed out.
use mathlib.Core.Bool.{Bool}
use mathlib.Core.Path.{◌∙◌, ap, sym}
use native.Mathlib.Omega.{arith}
use Rattle.morphology.specs.Element.{offsets}
use Rattle.morphology.specs.Falls.{falls_off}
use Rattle.morphology.specs.Image.{clip, image_set, pack}
use Rattle.morphology.specs.Morphology.{dilate}
use Rattle.morphology.specs.Point.{Point}
use Rattle.morphology.proofs.ImageLaws.{clip_on}
use Rattle.iteration.proofs.StepLaws.{first_as, loaded, sheet-bytes, wrote}
use Rattle.dilation.proofs.dilate_into.Goals as goal

pub dilate_step-clipped-requires : goal.dilate_step-clipped-requires
dilate_step-clipped-requires c =
    let a = c.args in
    let k = c.args.f.sheet in
    let q = sheet-bytes k in
    let v = loaded a.f.w a.f.h a.f.p a.image.now a.out.now a.work.now _ q c.requires.0 c.copy.ensures in
    (omega (arith, v.size, c.requires.0.work, q), c.requires.1, v.clean)

pub returns : goal.returns
returns c =
    let a = c.args in
    let p = a.f.p in
    let q = sheet-bytes c.args.f.sheet in
    let v = loaded a.f.w a.f.h p a.image.now a.out.now a.work.now _ q c.requires.0 c.copy.ensures in
    let B = offsets a.element in
    let e = c.dilate_step-clipped.ensures in
    record {
      image =
          wrote a.f.w a.f.h p _ (clip a.f.w a.f.h (dilate B (image_set a.f.w a.f.h a.image.now))) a.image.now a.work.now _ _ _ _ q
          (clip_on a.f.w a.f.h (dilate B (image_set a.f.w a.f.h a.image.now))) (c.requires.0.image ∙ sym q) c.copy.ensures
          (first_as (ap (λ (Y : Point → Bool). pack a.f.w a.f.h (clip a.f.w a.f.h (dilate B Y))) v.set) e.plane) c.hand_out.ensures;
      clipped = e.clipped ∙ ap (falls_off a.f.w a.f.h B) v.set;
    }
