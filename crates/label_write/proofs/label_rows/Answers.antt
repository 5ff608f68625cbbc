use mathlib.Core.Path.{◌∙◌, subst, sym}
use Prim.Native.Nat.{◌*◌, ◌+◌, ◌-◌, ℕ}
use native.Mathlib.Nat.{le_refl}
use native.Mathlib.Omega.{arith}
use lib.ListN.{length}
use Rattle.morphology.specs.Image.{stride}
use Rattle.raster.proofs.RowLaws.{row_at, row_in}
use Rattle.label_write.specs.Labelled.{RowsLabelled, lacking, left_at}
use Rattle.label_write.proofs.LabelLaws.{area_small, count-up_to, left-lacking, rows_join, rows_one, rows_same, same_bytes}
use Rattle.label_write.proofs.label_rows.Goals as goal

pub returns-then-same_rows : goal.returns-then-same_rows
returns-then-same_rows c =
    let a = c.args in
    let f = same_bytes a.s.now (a.y * a.r) (a.q + a.y * a.r) ((a.e - a.y) * a.r) (sym c.same_rows.ensures ∙ c.if-same_rows.true) in
    λ h l. rows_same a.w h a.r a.q a.v a.s.now a.labels.now a.y a.e c.requires.0.row c.requires.1 l f

pub label_line-n-requires : goal.label_line-n-requires
unfolding stride
label_line-n-requires c =
    let a = c.args in
    let l = c.loop-i in
    let t = c.loop-i-test.true in (
      c.requires.0.row,
      c.requires.0.across,
      row_in l.i a.e a.r a.q t c.requires.2,
      row_at a.q l.i a.e a.r (length a.s.now) t c.requires.3,
      omega (arith, row_in l.i a.e a.w (a.e * a.w) t (le_refl (a.e * a.w))),
    )

pub overflow_add-n : goal.overflow_add-n
overflow_add-n c =
    let a = c.args in
    let l = c.loop-i in
    let k = c.label_line-n.ensures.points in
    let u = count-up_to (left_at a.s.now (l.i * a.r) (a.q + l.i * a.r)) a.w in
    let m = area_small a.w (lacking a.w a.e a.q a.s.now) l.i c.requires.0.across (omega arith) in
    omega (arith, (l.invariant a.e (le_refl a.e)).points)

pub loop-i-preserved : goal.loop-i-preserved
loop-i-preserved c =
    let a = c.args in
    let l = c.loop-i in
    λ h g.
    let S = lacking a.w h a.q a.s.now in
    rows_join a.w S a.v a.y l.i (l.i + 1) a.labels.now l.labels _ l.n _ (omega arith) (omega arith) (l.invariant h g)
    (rows_one a.w S a.v l.i (left_at a.s.now (l.i * a.r) (a.q + l.i * a.r)) l.labels _ _
    (λ x hx. left-lacking a.w h a.r a.q a.s.now c.requires.0.row l.i x (omega arith) hx) c.label_line-n.ensures)

pub returns : goal.returns
returns c =
    let a = c.args in
    let l = c.loop-i in
    λ h g. subst (λ (k : ℕ). RowsLabelled a.w (lacking a.w h a.q a.s.now) a.v a.y k a.labels.now l.labels l.n) (omega arith) (l.invariant h g)
