use native.Mathlib.Omega.{arith}
use Rattle.raster.proofs.RowLaws.{rows-joined}
use Rattle.raster.proofs.join_rows.Goals as goal

pub returns : goal.returns
returns c =
    let a = c.args in
    rows-joined a.how.dilating a.how.inverse c.exchange-m.result a.src.now a.dst.now c.loop-i.dst c.loop-i.i c.exchange-m.ensures (omega arith) c.loop-i.invariant
