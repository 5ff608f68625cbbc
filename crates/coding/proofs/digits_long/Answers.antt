use native.Mathlib.Omega.{arith}
use Rattle.coding.proofs.NumeralLaws.{length-small, length_third}
use Rattle.coding.proofs.digits_long.Goals as goal

pub loop-left-preserved : goal.loop-left-preserved
loop-left-preserved c =
    let l = c.loop-left in
    (omega (arith, length_third l.left (omega arith)), omega arith)

pub returns : goal.returns
returns c =
    let l = c.loop-left in
    omega (arith, length-small l.left (omega arith))
