use mathlib.Core.Bool.{Bool, ◌||◌}
use mathlib.Core.Path.{◌∙◌, ◌≡◌, ap, subst}
use Prim.Native.Nat.{◌*◌, ◌+◌, ◌-◌, ℕ}
use native.Mathlib.Nat.{le_refl, mul_comm}
use native.Mathlib.Omega.{arith}
use borrow.Author.Rules.{rules}
use lib.ListN.{drop, length, length-drop, take}
use lib.Seq.{length-take-le}
use Rattle.raster.specs.Rows.{PlaneIs, row_bit}
use Rattle.raster.proofs.LoopLaws.{mapped_more}
use Rattle.raster.proofs.RowLaws.{row_in}
use Rattle.raster.proofs.PackLaws.{frame_row, plane_packed}
use Rattle.label_read.specs.Points.{greatest_below, with_points}
use Rattle.label_read.proofs.PointLaws.{label_is, points_more, points_set}
use Rattle.label_read.proofs.add_points.Goals as goal

pub add_row-requires : goal.add_row-requires
add_row-requires c =
    let a = c.args in
    let l = c.loop-y in
    let at = l.y * a.f.w in
    let d = l.y * a.f.r in
    let i = row_in l.y a.f.h a.f.w (a.f.h * a.f.w) (omega arith) (le_refl (a.f.h * a.f.w)) in
    let j = row_in l.y a.f.h a.f.r (length a.plane.now) (omega arith) c.requires.2 in
    let m = length-take-le (at + a.f.w - at) (drop at a.labels.now) (omega (arith, length-drop at a.labels.now, i, mul_comm a.f.h a.f.w, c.requires.1)) in
    let n = length-take-le (d + a.f.r - d) (drop d l.plane) (omega (arith, length-drop d l.plane, j)) in
    let e : a.f.w ≡ at + a.f.w - at = omega arith in (
      l.invariant.2.rest l.y (le_refl l.y) ∙ c.requires.4 l.y (omega arith)
          ∙ ap (λ (k : ℕ). greatest_below (a.v + 1) (take k (drop at a.labels.now))) e,
      omega (arith, m, n, frame_row c.args.f.sheet.frame),
    )

pub loop-y-preserved : goal.loop-y-preserved
loop-y-preserved c =
    let a = c.args in
    let l = c.loop-y in
    let d = l.y * a.f.r in
    let at = l.y * a.f.w in
    let i = row_in l.y a.f.h a.f.w (a.f.h * a.f.w) (omega arith) (le_refl (a.f.h * a.f.w)) in
    let j = row_in l.y a.f.h a.f.r (length a.plane.now) (omega arith) c.requires.2 in
    let e : at + a.f.w - at ≡ a.f.w = omega arith in (
      points_more a.f.w a.f.r l.y a.v (at + a.f.w - at) (d + a.f.r - d) a.labels.now a.plane.now l.plane _ (omega arith) (omega arith)
          (omega (arith, i, mul_comm a.f.h a.f.w, c.requires.1)) (omega (arith, j)) l.invariant.0 c.add_row.ensures.1,
      search rules,
      mapped_more _ (omega arith) (c.add_row.ensures.0 ∙ ap (λ (k : ℕ). greatest_below a.v (take k (drop at a.labels.now))) e) l.invariant.2,
    )

pub returns-clause-plane : goal.returns-clause-plane
returns-clause-plane c =
    let a = c.args in
    let l = c.loop-y in
    let g : ℕ → ℕ → Bool = λ y x. row_bit a.plane.now (8 * (0 + y * a.f.r) + x) || label_is a.f.w a.labels.now a.v y x in
    plane_packed a.f.w a.f.h a.f.r 0 (with_points a.f.w a.f.h a.labels.now a.v a.plane.now) g a.plane.now l.plane c.args.f.sheet.frame (omega arith)
    l.invariant.1 (subst (λ (n : ℕ). PlaneIs 0 a.f.r n a.plane.now l.plane g) (omega arith) l.invariant.0)
    (λ y x hy hx. points_set a.f.w a.f.h a.f.r a.v a.labels.now a.plane.now c.args.f.sheet.frame.row c.requires.0 c.requires.3 y x hy hx)
