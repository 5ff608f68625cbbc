use native.Mathlib.Omega.{arith}
use Rattle.iteration.proofs.StepLaws.{sheet-bytes, sheet-small}
use Rattle.thinning.proofs.EndLaws.{counted, pass-plane, points-small, running-end, running_less, running-start, running_turn}
use Rattle.thinning.proofs.PassLaws.{begun}
use Rattle.thinning.proofs.thin_passes.Goals as goal

pub count_ones-before-requires : goal.count_ones-before-requires
count_ones-before-requires c = omega (arith, c.requires.0, sheet-small c.args.f.sheet)

pub loop-left-init : goal.loop-left-init
loop-left-init c =
    let a = c.args in
    let plane = begun c.args.f.sheet c.requires.0 (λ i. (c.slice_known-1.given i).fits) c.requires.2 in
    running-start a.f.w a.f.h a.f.p a.image.now a.work.now _ plane c.count_ones-before.ensures

pub overflow_add-passes : goal.overflow_add-passes
overflow_add-passes c =
    let a = c.args in
    let plane = begun c.args.f.sheet c.requires.0 (λ i. (c.slice_known-1.given i).fits) c.requires.2 in
    omega
    (arith, c.loop-left.invariant.bound, counted a.f.w a.f.h a.f.p a.image.now _ plane c.count_ones-before.ensures, points-small a.f.w a.f.h a.f.p a.f.r a.image.now c.args.f.sheet.frame)

pub count_ones-area-requires : goal.count_ones-area-requires
count_ones-area-requires c =
    let a = c.args in
    let l = c.loop-left in
    let g = pass-plane a.f.w a.f.h a.f.p _ a.image.now l.image _ a.work.now l.work _ l.passes l.left 0 l.invariant c.thin_pass.ensures in
    omega (arith, g.size, sheet-small c.args.f.sheet, sheet-bytes c.args.f.sheet)

pub returns-then-area-left : goal.returns-then-area-left
returns-then-area-left c =
    let a = c.args in
    let plane = begun c.args.f.sheet c.requires.0 (λ i. (c.slice_known-1.given i).fits) c.requires.2 in
    let l = c.loop-left in
    running-end a.f.w a.f.h a.f.p _ a.image.now l.image _ a.work.now l.work _ l.passes l.left _ l.invariant c.thin_pass.ensures c.count_ones-area.ensures
    c.if-area-left.true (counted a.f.w a.f.h a.f.p a.image.now _ plane c.count_ones-before.ensures)

pub loop-left-smaller : goal.loop-left-smaller
loop-left-smaller c =
    let a = c.args in
    let l = c.loop-left in
    running_less a.f.w a.f.h a.f.p _ a.image.now l.image _ a.work.now l.work _ l.passes l.left _ l.invariant c.thin_pass.ensures c.count_ones-area.ensures
    c.if-area-left.false

pub loop-left-preserved : goal.loop-left-preserved
loop-left-preserved c =
    let a = c.args in
    let l = c.loop-left in
    running_turn a.f.w a.f.h a.f.p _ a.image.now l.image _ a.work.now l.work _ l.passes l.left _ l.invariant c.thin_pass.ensures c.count_ones-area.ensures
    c.if-area-left.false
