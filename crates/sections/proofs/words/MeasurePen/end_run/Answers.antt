-- `sections::words::Measure::end_run` meets its contract: the place moves as far as its digits and the comma reach.
use native.Mathlib.Omega.{arith}
use Prim.Native.Nat.{◌+◌}
use Rattle.sections.proofs.PenLaws.{up_one}
use Rattle.sections.proofs.words.MeasurePen.end_run.Goals as goal

pub returns : goal.returns
returns c =
    let a = c.args in
    up_one a.run a.out.now a.at (a.at + c.digits.result + 1) (omega (arith, c.digits.ensures))
