-- `label_read::add_row` meets its contract.
use mathlib.Core.Path.{◌∙◌}
use native.Mathlib.Omega.{arith}
use Rattle.label_read.proofs.PointLaws.{below-same, labels-below}
use Rattle.label_read.proofs.add_row.Goals as goal

pub returns-then-top-v : goal.returns-then-top-v
returns-then-top-v c =
    let a = c.args in (
      c.requires.0 ∙ below-same a.v a.row.now (omega (arith, c.requires.0, c.if-top-v.true)),
      labels-below a.row.now a.v a.pixels.now (omega (arith, c.requires.0, c.if-top-v.true)),
    )
