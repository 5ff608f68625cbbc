use mathlib.Core.Path.{sym}
use native.Mathlib.Omega.{arith}
use borrow.Author.Rules.{rules}
use Rattle.morphology.specs.Element.{offsets}
use Rattle.morphology.specs.Image.{image_set}
use Rattle.morphology.specs.Morphology.{times}
use Rattle.morphology.proofs.FallsLaws.{falls-empty}
use Rattle.morphology.proofs.ImageLaws.{image_on}
use Rattle.morphology.proofs.InTurnLaws.{times_none}
use Rattle.iteration.proofs.StepLaws.{dilated_more, dilated_on, dilated-rest, dilated-start, fallen_more, first-clean, first-none, first-start, sheet-bytes}
use Rattle.iteration.proofs.dilate_times.Goals as goal

pub returns-then-not-has_ink : goal.returns-then-not-has_ink
returns-then-not-has_ink c =
    let a = c.args in
    let X = image_set a.f.w a.f.h a.work.now in
    let q = sheet-bytes c.args.f.sheet in
    let f = first-start a.f.w a.f.h a.f.p a.work.now q c.requires.0 (search rules) c.requires.2 in
    let none = first-none a.f.w a.f.h a.f.p X a.work.now a.work.now q (image_on a.f.w a.f.h a.work.now) (omega arith) f (sym c.if-not-has_ink.ensures) in
    record {
      plane = dilated-rest a.f.w a.f.h a.f.p (offsets a.element) a.n X a.work.now a.work.now none f;
      clipped = sym (falls-empty a.f.w a.f.h (times (offsets a.element) a.n) X none);
    }

pub loop-dilation-init : goal.loop-dilation-init
loop-dilation-init c =
    let a = c.args in
    let X = image_set a.f.w a.f.h a.work.now in (
      dilated-start a.f.w a.f.h a.f.p (offsets a.element) X a.work.now a.work.now
          (first-start a.f.w a.f.h a.f.p a.work.now (sheet-bytes c.args.f.sheet) c.requires.0 (search rules) c.requires.2),
      sym (times_none a.f.w a.f.h (offsets a.element) X (image_on a.f.w a.f.h a.work.now)),
    )

pub dilate_step-clipped-requires : goal.dilate_step-clipped-requires
dilate_step-clipped-requires c =
    let a = c.args in
    let l = c.loop-dilation in
    let X = image_set a.f.w a.f.h a.work.now in (
      omega arith,
      c.requires.1,
      first-clean (sheet-bytes c.args.f.sheet) (dilated_on a.f.w a.f.h (offsets a.element) l._dilation X (image_on a.f.w a.f.h a.work.now)) l.invariant.0,
    )

pub loop-dilation-preserved : goal.loop-dilation-preserved
loop-dilation-preserved c =
    let a = c.args in
    let l = c.loop-dilation in
    let X = image_set a.f.w a.f.h a.work.now in (
      dilated_more a.f.w a.f.h a.f.p (offsets a.element) l._dilation X a.work.now l.work _ (sheet-bytes c.args.f.sheet) (image_on a.f.w a.f.h a.work.now) l.invariant.0
          c.dilate_step-clipped.ensures.plane,
      fallen_more a.f.w a.f.h a.f.p a.element l._dilation c.requires.1 X a.work.now l.work l.clipped _ (sheet-bytes c.args.f.sheet) (image_on a.f.w a.f.h a.work.now)
          l.invariant.0 l.invariant.1 c.dilate_step-clipped.ensures.clipped,
    )
