use Prim.Native.Nat.{◌*◌, ◌+◌, ◌-◌}
use mathlib.Core.Path.{◌∙◌, ◌≡◌, subst, sym}
use native.Mathlib.Omega.{arith}
use Rattle.raster.specs.Bands.{BlankRow}
use Rattle.raster.proofs.RowLaws.{row_in}
use Rattle.raster.proofs.BandLaws.{blank_less, row-blank, row-ink}
use Rattle.raster.proofs.bands.end_row.Goals as goal

pub returns-then-has_ink : goal.returns-then-has_ink
returns-then-has_ink c =
    let a = c.args in
    let y = c.loop-y.y - 1 in
    let h = row_in y a.to a.r _ (omega arith) c.requires.1 in
    let e : y + 1 - 1 ≡ y = omega arith in
    record {
      from = omega arith;
      to = omega arith;
      blank = λ k l u. c.loop-y.invariant k (omega arith) u;
      ink = λ g b. row-ink a.r y (y * a.r + a.r - y * a.r) a.s.now (omega arith) h (sym c.has_ink.ensures ∙ c.if-has_ink.true) (subst (BlankRow a.r a.s.now) e b);
    }

pub loop-y-preserved : goal.loop-y-preserved
loop-y-preserved c =
    let a = c.args in
    let y = c.loop-y.y - 1 in
    let h = row_in y a.to a.r _ (omega arith) c.requires.1 in
    blank_less a.r c.loop-y.y a.to a.s.now (omega arith) c.loop-y.invariant
    (row-blank a.r y (y * a.r + a.r - y * a.r) a.s.now (omega arith) h (sym c.has_ink.ensures ∙ c.if-has_ink.false))
