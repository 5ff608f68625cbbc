use mathlib.Core.List.{[]}
use mathlib.Core.Path.{sym}
use native.Mathlib.Omega.{arith}
use Rattle.iteration.proofs.StepLaws.{first-start, sheet-bytes}
use Rattle.morphology.specs.Element.{offsets}
use Rattle.encoding.proofs.MeasureLaws.{counted_all, counted-below, counted-clean, counted-few, counted_more, counted-small, counted-start, room_up, runs-small}
use Rattle.encoding.proofs.SizeLaws.{passed_start}
use Rattle.encoding.proofs.measure.Goals as goal

pub loop-f-init : goal.loop-f-init
loop-f-init c =
    let a = c.args in
    let first = first-start a.f.w a.f.h a.f.p a.work.now (sheet-bytes c.args.f.sheet) (omega (arith, c.requires.0)) (λ i. (c.type_inv.work i).fits) c.requires.3 in
    counted-start a.f.w a.f.h a.f.p a.element a.work.now a.lengths.now (passed_start a.f.w a.f.h a.f.p a.element a.work.now first)

pub take_size-runs-requires : goal.take_size-runs-requires
take_size-runs-requires c =
    let l = c.loop-f in (
      omega (arith, l.invariant.plane.size, c.requires.0),
      c.requires.2,
      counted-clean c.args.f.sheet c.requires.2 l.invariant,
      room_up c.args.f.sheet.frame (offsets c.args.element) l.work [],
    )

pub section_length-symbols-requires : goal.section_length-symbols-requires
section_length-symbols-requires c = omega (arith, runs-small c.args.f.sheet c.take_size-runs.ensures)

pub overflow_cast-lengths : goal.overflow_cast-lengths
overflow_cast-lengths c = omega (arith, runs-small c.args.f.sheet c.take_size-runs.ensures, c.section_length-symbols.ensures.1)

pub offset_bounds-lengths-total : goal.offset_bounds-lengths-total
offset_bounds-lengths-total c = omega (arith, counted-few c.args.f.sheet c.requires.2 c.loop-f.invariant (sym (c.loop-f-test.ensures)))

pub bounds-lengths-total : goal.bounds-lengths-total
bounds-lengths-total c = omega (arith, counted-few c.args.f.sheet c.requires.2 c.loop-f.invariant (sym (c.loop-f-test.ensures)), c.requires.1)

pub overflow_add-total : goal.overflow_add-total
overflow_add-total c =
    omega (
      arith,
      runs-small c.args.f.sheet c.take_size-runs.ensures,
      c.section_length-symbols.ensures.1,
      counted-small c.args.f.sheet c.requires.2 c.loop-f.invariant,
    )

pub overflow_add-total-in-loop-f : goal.overflow_add-total-in-loop-f
overflow_add-total-in-loop-f c = omega (arith, counted-few c.args.f.sheet c.requires.2 c.loop-f.invariant (sym (c.loop-f-test.ensures)))

pub loop-f-smaller : goal.loop-f-smaller
loop-f-smaller c = omega (arith, counted-below c.args.f.sheet c.requires.2 c.loop-f.invariant (sym (c.loop-f-test.ensures)))

pub loop-f-preserved : goal.loop-f-preserved
loop-f-preserved c =
    let l = c.loop-f in
    let ink = sym c.loop-f-test.ensures in
    let s = c.section_length-symbols in
    let few = counted-few c.args.f.sheet c.requires.2 l.invariant ink in
    counted_more c.args.f.sheet c.requires.2 l.invariant ink s.result (omega (arith, few, c.requires.1)) c.take_size-runs.ensures s.ensures.0

pub returns : goal.returns
returns c =
    let w = c.loop-f.invariant in
    counted_all c.args.f.sheet c.requires.2 w (omega (arith, w.plane.size, c.requires.0)) (sym (c.loop-f-test.ensures))
