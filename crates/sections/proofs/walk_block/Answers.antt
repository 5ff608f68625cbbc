use mathlib.Core.Path.{◌∙◌, ◌≡◌, sym}
use Prim.Native.Nat.{◌*◌, ◌+◌, ◌-◌, ◌/◌}
use native.Mathlib.Nat.{one-mul}
use native.Mathlib.Omega.{arith}
use lib.ListN.{drop, length, length-drop}
use lib.Seq.{length-take-le}
use Rattle.morphology.specs.Image.{image_set, stride}
use Rattle.morphology.proofs.PlaneLaws.{area_le}
use Rattle.raster.proofs.RowLaws.{row_at, row_in}
use Rattle.sections.proofs.PlaneLaws.{frame-few, mask-ones, row_kinds_lem, rows-count, rows_more, rows_none, rows-room, same_set, same_walked}
use Rattle.sections.proofs.walk_block.Goals as goal

pub ink_of-covered-requires : goal.ink_of-covered-requires
ink_of-covered-requires g c =
    let a = c.args in
    let m = a.q + a.f.h * a.f.r - a.q in
    omega (arith, length-take-le m (drop a.q a.s.now) (omega (arith, length-drop a.q a.s.now, c.requires.1)), frame-few c.args.f.sheet.frame)

pub overflow_sub-result : goal.overflow_sub-result
overflow_sub-result g c =
    let a = c.args in
    let m = a.q + a.f.h * a.f.r - a.q in
    let ones = mask-ones a.f.w a.f.h a.f.r a.q m a.s.now c.args.f.sheet.frame (omega arith) (omega (arith, c.requires.1)) (λ i. (c.type_inv.s i).fits) c.requires.2 in
    let covered = c.ink_of-covered.ensures ∙ ones in
    omega (arith, covered, area_le a.f.w a.f.h (image_set a.f.w a.f.h (drop a.q a.s.now)))

pub returns-then-same_rows : goal.returns-then-same_rows
returns-then-same_rows g c =
    let a = c.args in
    let m = a.q + a.f.h * a.f.r - a.q in
    let ones = mask-ones a.f.w a.f.h a.f.r a.q m a.s.now c.args.f.sheet.frame (omega arith) (omega (arith, c.requires.1)) (λ i. (c.type_inv.s i).fits) c.requires.2 in
    let covered = c.ink_of-covered.ensures ∙ ones in
    let t = sym c.same_rows.ensures ∙ c.if-same_rows.true in
    same_walked a.f.w a.f.h a.q c.ink_of-covered.result a.s.now g.P.Pen.down a.out.now a.pen.at a.pen.run (same_set a.f.w a.f.h a.f.r a.q a.s.now c.args.f.sheet.frame.row t) covered

pub loop-y-init : goal.loop-y-init
loop-y-init g c =
    let a = c.args in
    rows_none a.f.w a.f.h a.q a.s.now g.P.Pen.down a.out.now a.pen.at a.pen.run

pub walk_row-pen-requires : goal.walk_row-pen-requires
unfolding stride
walk_row-pen-requires g c =
    let a = c.args in
    let l = c.loop-y in
    let t = c.loop-y-test.true in
    let b : a.f.r ≡ (a.f.w + 7) / 8 = c.args.f.sheet.frame.row in
    let e = sym (one-mul a.f.w) in
    let k = row_kinds_lem a.f.w a.f.h a.f.r a.q l.y a.s.now c.args.f.sheet.frame.row t in (
      omega (arith, b, row_in l.y a.f.h a.f.r a.q t c.requires.0, c.requires.1),
      omega (arith, b, row_at a.q l.y a.f.h a.f.r (length a.s.now) t c.requires.1),
      omega (arith, rows-count a.f.w a.f.h a.q l.y 1 a.f.w a.s.now e (omega arith) l.invariant, c.requires.3),
      c.args.f.sheet.frame.across,
      rows-room a.f.w a.f.h a.q l.y 1 a.f.w a.s.now e (omega arith) k c.requires.4 l.invariant,
    )

pub loop-y-preserved : goal.loop-y-preserved
loop-y-preserved g c =
    let a = c.args in
    let l = c.loop-y in
    let t = c.loop-y-test.true in
    rows_more a.f.w a.f.h a.q l.y 1 a.f.w a.s.now (sym (one-mul a.f.w)) (omega arith) (row_kinds_lem a.f.w a.f.h a.f.r a.q l.y a.s.now c.args.f.sheet.frame.row t)
    l.invariant c.walk_row-pen.ensures
