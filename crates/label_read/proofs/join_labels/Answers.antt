use native.Mathlib.Omega.{arith}
use Rattle.label_read.proofs.PointLaws.{labels-joined}
use Rattle.label_read.proofs.join_labels.Goals as goal

pub returns : goal.returns
returns c =
    let l = c.loop-i in
    let a = c.args in
    labels-joined a.row.now a.v a.pixels.now l.pixels l.i (omega arith) l.invariant
