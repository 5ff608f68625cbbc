use Prim.Native.Nat.{◌*◌, ◌+◌, ◌-◌}
use mathlib.Core.Path.{◌∙◌, sym}
use native.Mathlib.Omega.{arith}
use Rattle.raster.proofs.RowLaws.{row_in}
use Rattle.raster.proofs.BandLaws.{blank_more, row-blank, row-ink}
use Rattle.raster.proofs.bands.first_row.Goals as goal

pub returns-then-has_ink : goal.returns-then-has_ink
returns-then-has_ink c =
    let a = c.args in
    let y = c.loop-y.y in
    let h = row_in y a.to a.r _ c.loop-y-test.true c.requires.1 in
    record {
      from = omega arith;
      to = omega arith;
      blank = c.loop-y.invariant;
      ink = λ g. row-ink a.r y (y * a.r + a.r - y * a.r) a.s.now (omega arith) h (sym c.has_ink.ensures ∙ c.if-has_ink.true);
    }

pub loop-y-preserved : goal.loop-y-preserved
loop-y-preserved c =
    let a = c.args in
    let y = c.loop-y.y in
    let h = row_in y a.to a.r _ c.loop-y-test.true c.requires.1 in
    blank_more a.r a.from y a.s.now c.loop-y.invariant
    (row-blank a.r y (y * a.r + a.r - y * a.r) a.s.now (omega arith) h (sym c.has_ink.ensures ∙ c.if-has_ink.false))
