use Rattle.std.proofs.Common.{◌≡◌, ◌*◌, ◌+◌, ℕ, arith, min, subst}
use Rattle.label_write.specs.Labelled.{RowsLabelled, lacking}
use Rattle.label_write.proofs.LabelLaws.{area_small, rows_join, rows-labelled}
use Rattle.label_write.proofs.label_plane.Goals as goal

pub overflow_add-n : goal.overflow_add-n
overflow_add-n c =
    let a = c.args in
    let S = lacking a.f.w a.f.h a.q a.s.now in
    let k = (c.label_rows-n.ensures a.f.h (omega arith)).points in
    let m = area_small a.f.w S c.min.result c.args.f.sheet.frame.across (omega arith) in
    let o = area_small a.f.w S (min a.f.h (16 * c.loop-k.k)) c.args.f.sheet.frame.across (omega arith) in
    omega (arith, c.loop-k.invariant.points)

pub loop-k-preserved : goal.loop-k-preserved
loop-k-preserved c =
    let a = c.args in
    let l = c.loop-k in
    let S = lacking a.f.w a.f.h a.q a.s.now in
    let y : min a.f.h (16 * l.k) ≡ 16 * l.k = omega arith in
    let e : c.min.result ≡ min a.f.h (16 * (l.k + 1)) = omega arith in
    subst (λ (n : ℕ). RowsLabelled a.f.w S a.v 0 n a.labels.now c.label_rows-n.new.labels (l.n + c.label_rows-n.result)) e
    (rows_join a.f.w S a.v 0 (16 * l.k) c.min.result a.labels.now l.labels _ l.n _ (omega arith) (omega arith)
    (subst (λ (n : ℕ). RowsLabelled a.f.w S a.v 0 n a.labels.now l.labels l.n) y l.invariant) (c.label_rows-n.ensures a.f.h (omega arith)))

pub returns : goal.returns
returns c =
    let a = c.args in
    let l = c.loop-k in
    rows-labelled a.f.w a.f.h (lacking a.f.w a.f.h a.q a.s.now) a.v _ a.labels.now l.labels l.n (omega arith) c.requires.2 l.invariant
