use mathlib.Core.Path.{◌≡◌, subst}
use Prim.Native.Nat.{◌+◌}
use native.Mathlib.Omega.{arith}
use lib.ListN.{get_or}
use Rattle.raster.proofs.BufferLaws.{copied-down}
use Rattle.raster.proofs.LoopLaws.{Mapped, mapped_more}
use Rattle.raster.proofs.copy_down.Goals as goal

pub loop-i-preserved : goal.loop-i-preserved
loop-i-preserved c =
    let l = c.loop-i in
    mapped_more _ (omega arith) (l.invariant.rest (c.args.p + l.i) (omega arith)) l.invariant

pub returns : goal.returns
returns c =
    let l = c.loop-i in
    let a = c.args in
    let e : l.i ≡ a.n = omega arith in
    copied-down a.p a.n a.work.now l.work (omega arith) (omega arith)
    (subst (Mapped (λ j. get_or a.work.now (a.p + j) 0) a.work.now l.work) e l.invariant)
