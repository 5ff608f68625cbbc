use mathlib.Core.Path.{◌≡◌, refl}
use Prim.Native.Nat.{◌*◌, ◌+◌}
use native.Mathlib.Omega.{arith}
use Rattle.morphology.specs.Image.{ones_of}
use Rattle.raster.specs.Counts.{ones_apart}
use Rattle.raster.proofs.CountLaws.{apart_more, apart-whole}
use Rattle.raster.proofs.counts.count_parts.Goals as goal

pub loop-k-init : goal.loop-k-init
unfolding ones_apart ones_of
loop-k-init c = (refl, omega arith)

pub loop-k-preserved : goal.loop-k-preserved
loop-k-preserved c =
    let k = c.loop-k.k in
    let e : 8 * (k + 1) ≡ 8 * k + 8 = omega arith in
    let m = apart_more c.args.s.now c.args.p (8 * k) 8 7 in
    (cc, omega arith)

pub returns : goal.returns
returns c =
    let e : 8 * c.loop-k.k ≡ c.args.p = omega arith in
    let m = apart-whole c.args.s.now c.args.p 0 7 in
    (cc, omega arith)
