-- `neighbours::join_near` meets its contract. The rows y to y + n are a part of out, which the strip is joined to.
use native.Mathlib.Omega.{arith}
use native.Mathlib.Nat.{zero-add}
use Prim.Native.Nat.{◌*◌, ◌+◌, ◌-◌}
use Rattle.raster.proofs.RowLaws.{rows_in}
use Rattle.neighbours.proofs.StripLaws.{strip-part}
use Rattle.neighbours.proofs.join_near.Goals as goal

pub returns : goal.returns
returns c =
    let a = c.args in
    let d = a.y * a.r in
    let F = rows_in a.y a.n a.h a.r c.requires.0.rows in
    rw zero-add (strip-part a.how.dilating a.how.inverse d a.r a.h a.y a.n (d + a.n * a.r - d) a.element a.image.now _ a.out.now _ (omega arith)
    (omega arith) c.load_near.ensures c.join_strip.ensures)

pub slice_bounds-join_strip-end : goal.slice_bounds-join_strip-end
slice_bounds-join_strip-end c =
    let a = c.args in
    omega (arith, rows_in a.y a.n a.h a.r c.requires.0.rows)
