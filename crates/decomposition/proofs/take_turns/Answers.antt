use mathlib.Core.Bool.{◌||◌}
use mathlib.Core.Path.{ap₂, refl, subst, sym}
use Prim.Native.Nat.{◌*◌, ℕ}
use native.Mathlib.Nat.{le_refl, mul-le-mul_right}
use native.Mathlib.Omega.{arith}
use borrow.Author.Rules.{rules}
use lib.ListN.{take}
use Rattle.morphology.proofs.ImageLaws.{image_on}
use Rattle.iteration.proofs.StepLaws.{first-start, sheet-bytes}
use Rattle.iteration.specs.Bands.{Banded}
use Rattle.iteration.proofs.BandLaws.{banded-start}
use Rattle.decomposition.proofs.TurnLaws.{stepped_as, stepped_le, turns_band, turns-below, turns-clean, turns-found, turns-labels, turns_more, turns-over, turns-point, turns-start}
use Rattle.decomposition.proofs.take_turns.Goals as goal

pub loop-from-init : goal.loop-from-init
loop-from-init c =
    let a = c.args in (
      turns-start a.f.w a.f.h a.f.p a.element a.work.now a.labels.now
          (first-start a.f.w a.f.h a.f.p a.work.now (sheet-bytes c.args.f.sheet) (omega arith) (search rules) c.requires.5) c.requires.3,
      banded-start a.f.h a.f.r _ _ (take a.f.p a.work.now) c.first_row-from.ensures c.end_row-to.ensures,
      refl,
    )

pub overflow_add-n : goal.overflow_add-n
overflow_add-n c =
    let a = c.args in
    let l = c.loop-from in
    omega (arith, turns-below a.element c.args.f.sheet c.requires.4 (image_on a.f.w a.f.h a.work.now) l.invariant.0 l.invariant.1 c.loop-from-test.true)

pub overflow_cast-n : goal.overflow_cast-n
overflow_cast-n c =
    let a = c.args in
    let l = c.loop-from in
    omega (arith, turns-below a.element c.args.f.sheet c.requires.4 (image_on a.f.w a.f.h a.work.now) l.invariant.0 l.invariant.1 c.loop-from-test.true)

pub turn_band-new-requires : goal.turn_band-new-requires
turn_band-new-requires c =
    let a = c.args in
    let l = c.loop-from in
    let on = image_on a.f.w a.f.h a.work.now in (
      record {
        frame = c.args.f.sheet.frame;
        apart = le_refl (a.f.h * a.f.r);
        planes = omega (arith, c.args.f.sheet.plane);
        places = turns-labels a.element c.args.f.sheet c.requires.4 on l.invariant.0;
        element = c.requires.4;
        clean = turns-clean a.element c.args.f.sheet c.requires.4 on l.invariant.0;
      },
      subst (λ (k : ℕ). Banded a.f.h a.f.r l.from l.to (take k l.work)) c.args.f.sheet.plane l.invariant.1,
    )

pub overflow_add-points : goal.overflow_add-points
overflow_add-points c =
    let a = c.args in
    let few = turns-found a.element c.args.f.sheet c.requires.4 (image_on a.f.w a.f.h a.work.now) c.loop-from.invariant.0 in
    let new = stepped_le c.turn_band-new.ensures.turn in
    omega (arith, mul-le-mul_right a.f.h c.args.f.sheet.frame.across, c.args.f.sheet.frame.down)

pub overflow_add-n-in-loop-from : goal.overflow_add-n-in-loop-from
overflow_add-n-in-loop-from c =
    let a = c.args in
    let l = c.loop-from in
    omega (arith, turns-below a.element c.args.f.sheet c.requires.4 (image_on a.f.w a.f.h a.work.now) l.invariant.0 l.invariant.1 c.loop-from-test.true)

pub loop-from-smaller : goal.loop-from-smaller
loop-from-smaller c =
    let a = c.args in
    let l = c.loop-from in
    omega (arith, turns-below a.element c.args.f.sheet c.requires.4 (image_on a.f.w a.f.h a.work.now) l.invariant.0 l.invariant.1 c.loop-from-test.true)

pub loop-from-preserved : goal.loop-from-preserved
loop-from-preserved c =
    let a = c.args in
    let l = c.loop-from in
    let on = image_on a.f.w a.f.h a.work.now in
    let d = stepped_as (sym c.args.f.sheet.plane) c.turn_band-new.ensures.turn in (
      turns_more a.element c.args.f.sheet c.requires.4 on l.invariant.0 d
          (turns-point a.element c.args.f.sheet c.requires.4 on l.invariant.0 l.invariant.1 c.loop-from-test.true),
      turns_band a.element c.args.f.sheet c.requires.4 on l.invariant.0 d l.invariant.1 c.first_row-from-in-loop-from.ensures c.end_row-to-in-loop-from.ensures,
      ap₂ ◌||◌ l.invariant.2 c.turn_band-new.ensures.clipped,
    )

pub returns-clause-turns : goal.returns-clause-turns
returns-clause-turns c =
    let a = c.args in
    let l = c.loop-from in
    turns-over a.element c.args.f.sheet c.requires.4 (image_on a.f.w a.f.h a.work.now) l.invariant.0 l.invariant.1 (omega arith)
