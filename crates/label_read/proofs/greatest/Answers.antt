use mathlib.Core.Path.{refl}
use native.Mathlib.Omega.{arith}
use Rattle.morphology.specs.Lists.{greatest}
use Rattle.label_read.proofs.PointLaws.{greatest_more}
use Rattle.label_read.proofs.greatest.Goals as goal

pub loop-b-init : goal.loop-b-init
unfolding greatest
loop-b-init c = refl

pub loop-b-preserved : goal.loop-b-preserved
loop-b-preserved c =
    let l = c.loop-b in
    let e = greatest_more c.args.labels.now l.b-index l.m (omega arith) l.invariant in
    cc
