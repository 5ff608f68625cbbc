use native.Mathlib.Omega.{arith}
use Rattle.raster.proofs.RowLaws.{rows-moved}
use Rattle.raster.proofs.move_rows.Goals as goal

pub returns : goal.returns
returns g c =
    let a = c.args in
    rows-moved a.buf.now a.dst.now c.loop-i.dst g.row.S c.loop-i.i (omega arith) c.loop-i.invariant (λ j. omega (arith, c.type_inv.buf j))
