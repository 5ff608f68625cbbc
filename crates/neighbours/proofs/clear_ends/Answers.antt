use native.Mathlib.Omega.{arith}
use Prim.Native.Nat.{◌*◌, ◌+◌, ◌-◌}
use lib.ListN.{length}
use Rattle.raster.proofs.RowLaws.{row_in}
use Rattle.neighbours.proofs.StripLaws.{rows-cleared}
use Rattle.neighbours.proofs.clear_ends.Goals as goal

pub loop-y-preserved : goal.loop-y-preserved
loop-y-preserved c =
    let a = c.args in
    let l = c.loop-y in
    let d = l.y * a.r in
    let i = row_in l.y a.m a.r (length a.strip.now) c.loop-y-test.true c.requires.2 in
    rows-cleared a.r l.y a.s (d + a.r - d) a.strip.now l.strip _ (omega arith) (omega arith) l.invariant c.clear_end.ensures
