use mathlib.Core.Bool.{◌||◌}
use mathlib.Core.Path.{◌∙◌, ◌≡◌, ap, ap₂, refl, subst, sym}
use Prim.Native.Nat.{◌*◌, ◌+◌, ◌-◌, ℕ}
use native.Mathlib.Omega.{arith}
use lib.ListN.{drop, take}
use Rattle.morphology.specs.Element.{offsets}
use Rattle.label_read.specs.Points.{Tops, greatest_below}
use Rattle.iteration.specs.Steps.{First}
use Rattle.iteration.proofs.StepLaws.{sheet-bytes}
use Rattle.reconstruction.specs.Gathered.{grown}
use Rattle.reconstruction.proofs.GatherLaws.{gathered-clean, gathered_last, gathered_more, gathered-start, gathered-stays}
use Rattle.reconstruction.proofs.gather.Goals as goal

pub returns-then-largest-cut-clause-work : goal.returns-then-largest-cut-clause-work
returns-then-largest-cut-clause-work c =
    let a = c.args in
    let g = c.greatest-largest in
    gathered_last a.f.w a.f.h a.f.p a.element a.cut (sheet-bytes c.args.f.sheet) a.labels.now c.requires.1 g.result a.work.now a.work.now
    (omega (arith, c.if-largest-cut.true))
    (gathered-start a.f.w a.f.h a.f.p a.element a.cut (sheet-bytes c.args.f.sheet) a.labels.now c.requires.1 g.result a.work.now g.ensures c.requires.2)

pub loop-n-init : goal.loop-n-init
loop-n-init c =
    let a = c.args in
    let g = c.greatest-largest in (
      gathered-start a.f.w a.f.h a.f.p a.element a.cut (sheet-bytes c.args.f.sheet) a.labels.now c.requires.1 g.result a.work.now g.ensures c.requires.2,
      λ y l. c.row_tops.ensures y l ∙ ap (λ (n : ℕ). greatest_below (n + 1) (take a.f.w (drop (y * a.f.w) a.labels.now))) (sym g.ensures),
      refl,
    )

pub grow-clipped-requires : goal.grow-clipped-requires
grow-clipped-requires c =
    let a = c.args in
    let l = c.loop-n in
    let v : l.n ≡ l.n - 1 + 1 = omega arith in
    record {
      sheet = c.args.f.sheet;
      element = c.requires.1.element;
      planes = omega arith;
      label = omega arith;
      places = c.requires.1.places;
      clean = gathered-clean a.f.w a.f.h a.f.p a.element a.cut (sheet-bytes c.args.f.sheet) a.labels.now c.requires.1 l.n a.work.now l.work l.invariant.0;
      tops = subst (λ (k : ℕ). Tops a.f.w a.f.h k a.labels.now l.tops) v l.invariant.1;
      rows = omega (arith, c.args.f.sheet.frame.down);
    }

pub loop-n-preserved : goal.loop-n-preserved
loop-n-preserved c =
    let a = c.args in
    let l = c.loop-n in
    let g = c.grow-clipped in
    let v : l.n - 1 + 1 ≡ l.n = omega arith in
    let stays =
    gathered-stays a.f.w a.f.h a.f.p a.element a.cut (sheet-bytes c.args.f.sheet) a.labels.now c.requires.1 l.n a.work.now l.work c.loop-n-test.true l.invariant.0 in (
      gathered_more a.f.w a.f.h a.f.p a.element a.cut (sheet-bytes c.args.f.sheet) a.labels.now c.requires.1 l.n a.work.now l.work _ c.loop-n-test.true
          l.invariant.0 stays
          (subst (λ (k : ℕ). First a.f.w a.f.h a.f.p (grown a.f.w a.f.h (offsets a.element) a.labels.now k l.work) l.work g.new.work) v g.ensures.work),
      subst (λ (k : ℕ). Tops a.f.w a.f.h k a.labels.now g.new.tops) (omega arith) g.ensures.tops,
      ap₂ ◌||◌ l.invariant.2 (g.ensures.clipped ∙ stays),
    )

pub returns-clause-work : goal.returns-clause-work
returns-clause-work c =
    let a = c.args in
    let l = c.loop-n in
    gathered_last a.f.w a.f.h a.f.p a.element a.cut (sheet-bytes c.args.f.sheet) a.labels.now c.requires.1 l.n a.work.now l.work (omega arith) l.invariant.0
