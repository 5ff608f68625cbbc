-- `neighbours::join_moved` meets its contract. A column without points asks nothing; any other is joined from the moved rows.
use native.Mathlib.Omega.{arith}
use mathlib.Core.Path.{ap}
use Prim.Native.Nat.{◌+◌, ℕ}
use Rattle.neighbours.specs.Neighbours.{strip_bit, turned}
use Rattle.neighbours.proofs.StripLaws.{strip_column, strip-idle}
use Rattle.neighbours.proofs.join_moved.Goals as goal

pub returns-then-empty : goal.returns-then-empty
returns-then-empty c =
    let a = c.args in
    strip-idle a.how.dilating a.r a.n a.column a.dst.now (λ y x k. strip_bit a.how.inverse a.buf.now a.r (x + (turned a.how.dilating a.j + 6)) (y + k))
    (omega (arith, c.if-empty.true))

pub returns : goal.returns
returns c =
    let a = c.args in
    strip_column a.how.dilating a.how.inverse a.r a.n a.column _ (turned a.how.dilating a.j + 6) a.buf.now _ a.dst.now _ c.requires.1.rows
    (ap (λ (k : ℕ). k + 6) c.reflect.ensures) c.move_strip.ensures c.join_column.ensures
