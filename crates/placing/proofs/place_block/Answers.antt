use mathlib.Core.Path.{◌∙◌, ◌≡◌, refl, sym}
use Prim.Native.Nat.{◌*◌, ◌+◌, ◌/◌}
use native.Mathlib.Nat.{le_refl, one-mul, zero-mul}
use native.Mathlib.Omega.{arith}
use Rattle.std.proofs.Common.{rules}
use lib.Seq.{length-take-le}
use Rattle.coding.specs.Symbols.{symbols_of}
use Rattle.morphology.specs.Image.{image_set, stride}
use Rattle.morphology.specs.Labels.{area}
use Rattle.morphology.proofs.PlaneLaws.{area_le}
use Rattle.raster.proofs.RowLaws.{row_in}
use Rattle.sections.proofs.PlaneLaws.{frame-few, mask-ones}
use Rattle.placing.specs.Planes.{plane_place}
use Rattle.placing.proofs.PlaneLaws.{frame-pixels, plane_passed, row-after, rows_more, rows-over, rows-within}
use Rattle.placing.proofs.WalkLaws.{walk_none, walk_sized}
use Rattle.placing.proofs.place_block.Goals as goal
use Rattle.placing.proofs.place_block.Goals.{After-ink_of-covered}

-- what the mask covers
covered_is : (c : After-ink_of-covered) → let a = c.args in c.ink_of-covered.result ≡ area a.f.w a.f.h (image_set a.f.w a.f.h a.block.now)
covered_is c =
    let a = c.args in
    c.ink_of-covered.ensures
    ∙ mask-ones a.f.w a.f.h a.f.r 0 (a.f.h * a.f.r) a.block.now c.args.f.sheet.frame refl (omega (arith, c.requires.1)) (λ i. search rules) c.requires.2

pub ink_of-covered-requires : goal.ink_of-covered-requires
ink_of-covered-requires c =
    let a = c.args in
    omega (arith, length-take-le (a.f.h * a.f.r) a.block.now c.requires.1, frame-few c.args.f.sheet.frame)

pub overflow_sub-free : goal.overflow_sub-free
overflow_sub-free c =
    let a = c.args in
    omega (arith, covered_is (goal.at.overflow_sub-free c).After-ink_of-covered, area_le a.f.w a.f.h (image_set a.f.w a.f.h a.block.now))

pub returns-then-free-run : goal.returns-then-free-run
returns-then-free-run c =
    let a = c.args in
    let q = c.requires in
    let e = covered_is (goal.at.returns-then-free-run c).After-ink_of-covered in
    plane_passed (symbols_of a.stream.now) a.run.at c.ink_of-covered.result a.block.now c.args.f.sheet.frame q.2 e c.if-free-run.true q.3

pub loop-y-init : goal.loop-y-init
loop-y-init c =
    let a = c.args in
    walk_sized (sym (zero-mul a.f.w)) (walk_none (symbols_of a.stream.now) (plane_place a.f.w a.f.r) a.run.at a.block.now c.requires.3)

pub place_row-requires : goal.place_row-requires
unfolding stride
place_row-requires c =
    let a = c.args in
    let l = c.loop-y in
    let t = c.loop-y-test.true in
    let v = l.invariant in
    let f = c.args.f.sheet.frame in
    let b : a.f.r ≡ (a.f.w + 7) / 8 = f.row in
    let m = v.moved in (
      f.wide,
      c.requires.0,
      f.across,
      omega (arith, b, row_in l.y a.f.h a.f.r (a.f.h * a.f.r) t (le_refl (a.f.h * a.f.r)), c.requires.1, v.found.size),
      m.1,
      c.requires.4,
      omega (arith, m.0, m.1, c.requires.4, c.requires.5, rows-within l.y 0 a.f.h a.f.w (omega arith), frame-pixels f),
    )

pub returns-in_err-next : goal.returns-in_err-next
returns-in_err-next c =
    let l = c.loop-y in
    let f = c.args.f.sheet.frame in
    rw c.from_residual.ensures
    (rows-over l.y 1 f (omega (arith, c.loop-y-test.true)) tt
    (rows_more l.y 1 f (sym (one-mul c.args.f.w)) (row-after f l.y) l.invariant c.in_err-next.ensures))

pub returns-in_default : goal.returns-in_default
returns-in_default c =
    let l = c.loop-y in
    let f = c.args.f.sheet.frame in
    rows-over l.y 1 f (omega (arith, c.loop-y-test.true)) (rw c.in_default.is tt)
    (rows_more l.y 1 f (sym (one-mul c.args.f.w)) (row-after f l.y) l.invariant c.in_ok-next.ensures)

pub loop-y-preserved : goal.loop-y-preserved
loop-y-preserved c =
    let l = c.loop-y in
    let f = c.args.f.sheet.frame in
    rows_more l.y 1 f (sym (one-mul c.args.f.w)) (row-after f l.y) l.invariant (rw c.in-Run.is at c.in_ok-next.ensures)
