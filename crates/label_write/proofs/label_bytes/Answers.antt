use mathlib.Core.Path.{◌≡◌, subst}
use Prim.Native.Nat.{◌%◌, ◌*◌, ◌+◌, ◌/◌, ℕ}
use native.Mathlib.Omega.{arith}
use Rattle.label_write.specs.Labelled.{RowLabelled, left_at}
use Rattle.label_write.proofs.LabelLaws.{count-up_to, left_on, row_more, row-none}
use Rattle.label_write.proofs.label_bytes.Goals as goal

pub loop-k-init : goal.loop-k-init
loop-k-init c = row-none c.args.at (left_at c.args.s.now c.args.a c.args.b) c.args.v c.args.labels.now

pub overflow_add-n : goal.overflow_add-n
overflow_add-n c =
    let a = c.args in
    let k = c.loop-k.k in
    omega (arith, c.loop-k.invariant.points, count-up_to (left_at a.s.now a.a a.b) (8 * k), c.label_byte-n.ensures.points, count-up_to (left_at a.s.now (a.a + k) (a.b + k)) 8)

pub loop-k-preserved : goal.loop-k-preserved
loop-k-preserved c =
    let a = c.args in
    let l = c.loop-k in
    row_more a.at (8 * l.k) 8 (8 * (l.k + 1)) (left_at a.s.now a.a a.b) _ a.v a.labels.now l.labels _ l.n _ (omega arith) (λ j h. left_on a.s.now a.a a.b l.k j) l.invariant
    c.label_byte-n.ensures

pub overflow_add-result : goal.overflow_add-result
overflow_add-result c =
    let a = c.args in
    let k = a.w / 8 in
    omega (arith, c.loop-k.invariant.points, count-up_to (left_at a.s.now a.a a.b) (8 * c.loop-k.k), c.label_byte-2.ensures.points, count-up_to (left_at a.s.now (a.a + k) (a.b + k)) (a.w % 8))

pub returns : goal.returns
returns c =
    let a = c.args in
    let l = c.loop-k in
    let k = a.w / 8 in
    let e : l.k ≡ k = omega arith in
    row_more a.at (8 * k) (a.w % 8) a.w (left_at a.s.now a.a a.b) _ a.v a.labels.now l.labels _ l.n _ (omega arith) (λ j h. left_on a.s.now a.a a.b k j)
    (subst (λ (n : ℕ). RowLabelled a.at (8 * n) (left_at a.s.now a.a a.b) a.v a.labels.now l.labels l.n) e l.invariant) c.label_byte-2.ensures
