use mathlib.Core.Path.{◌≡◌, subst}
use Prim.Native.Nat.{ℕ}
use native.Mathlib.Omega.{arith}
use Rattle.raster.proofs.PartLaws.{PartIs, part_more, part_none, row_copied}
use Rattle.raster.proofs.copy_up.Goals as goal

pub loop-i-init : goal.loop-i-init
loop-i-init c = part_none _ _ _

pub loop-i-preserved : goal.loop-i-preserved
loop-i-preserved c =
    let l = c.loop-i in
    let a = c.args in
    part_more a.p l.i _ a.work.now a.work.now l.work (omega arith) (l.invariant.before l.i (omega arith)) l.invariant

pub returns : goal.returns
returns c =
    let l = c.loop-i in
    let a = c.args in
    let e : l.i ≡ a.n = omega arith in
    row_copied a.p a.n a.work.now l.work (subst (λ (k : ℕ). PartIs a.p k a.work.now a.work.now l.work) e l.invariant)
