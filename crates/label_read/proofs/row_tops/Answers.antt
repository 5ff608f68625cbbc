use mathlib.Core.Path.{◌∙◌}
use Prim.Native.Nat.{◌*◌}
use native.Mathlib.Omega.{arith}
use Rattle.label_read.proofs.PointLaws.{below_row}
use Rattle.label_read.proofs.row_tops.Goals as goal

pub returns : goal.returns
returns c =
    let a = c.args in
    λ y l. c.loop-y.invariant.done y (omega arith) ∙ below_row a.w (y * a.w) a.labels.now
