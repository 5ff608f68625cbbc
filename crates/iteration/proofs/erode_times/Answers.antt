use mathlib.Core.Path.{ap, sym}
use native.Mathlib.Omega.{arith}
use Rattle.morphology.specs.Element.{offsets}
use Rattle.morphology.specs.Image.{image_set, pack}
use Rattle.morphology.proofs.ImageLaws.{image_on}
use Rattle.morphology.proofs.MorphologyLaws.{eroded-zero}
use Rattle.iteration.proofs.StepLaws.{eroded-clean, eroded_more, eroded-rest, first_as, first-start, sheet-bytes}
use Rattle.iteration.proofs.erode_times.Goals as goal

pub loop-erosion-init : goal.loop-erosion-init
loop-erosion-init c =
    let a = c.args in
    first_as (ap (pack a.f.w a.f.h) (sym (eroded-zero (offsets a.element) (image_set a.f.w a.f.h a.work.now))))
    (first-start a.f.w a.f.h a.f.p a.work.now (sheet-bytes c.args.f.sheet) c.requires.0 (λ i. (c.type_inv.work i).fits) c.requires.2)

pub returns-then-not-has_ink : goal.returns-then-not-has_ink
returns-then-not-has_ink c =
    let a = c.args in
    let l = c.loop-erosion in
    let X = image_set a.f.w a.f.h a.work.now in
    eroded-rest a.f.w a.f.h a.f.p a.element c.requires.1 (sheet-bytes c.args.f.sheet) X (image_on a.f.w a.f.h a.work.now) a.work.now l.work l._erosion a.n (omega arith)
    (omega arith) l.invariant (sym c.if-not-has_ink.ensures)

pub erode_step-requires : goal.erode_step-requires
erode_step-requires c =
    let a = c.args in
    let l = c.loop-erosion in
    let X = image_set a.f.w a.f.h a.work.now in (
      omega arith,
      c.requires.1,
      eroded-clean a.f.w a.f.h a.f.p a.element c.requires.1 (sheet-bytes c.args.f.sheet) X (image_on a.f.w a.f.h a.work.now) a.work.now l.work l._erosion l.invariant,
    )

pub loop-erosion-preserved : goal.loop-erosion-preserved
loop-erosion-preserved c =
    let a = c.args in
    let l = c.loop-erosion in
    let X = image_set a.f.w a.f.h a.work.now in
    eroded_more a.f.w a.f.h a.f.p a.element c.requires.1 (sheet-bytes c.args.f.sheet) X (image_on a.f.w a.f.h a.work.now) a.work.now l.work l._erosion _ l.invariant
    c.erode_step.ensures
