-- `sections::words::measure_dense` meets its contract: the first run has the digits of what was counted before it, any other has one.
use native.Mathlib.Omega.{arith}
use Rattle.sections.proofs.DenseLaws.{dense-after, dense-few, dense-size}
use Rattle.sections.proofs.words.measure_dense.Goals as goal

pub overflow_sub-rest : goal.overflow_sub-rest
overflow_sub-rest c = omega (arith, (dense-size c.args.pen.run c.args.ink c.requires.0 c.ranges.ink.fits).0)

pub overflow_add-result : goal.overflow_add-result
overflow_add-result c =
    let a = c.args in
    let d = c.digits-first in
    omega (arith, dense-few a.pen.run a.ink c.requires.0 c.ranges.ink.fits d.result d.ensures c.requires.1)

pub returns : goal.returns
returns c =
    let a = c.args in
    let t = dense-size a.pen.run a.ink c.requires.0 c.ranges.ink.fits in
    (omega (arith, t.0, t.1, c.digits-first.ensures), dense-after a.pen.run a.ink c.requires.0 c.ranges.ink.fits)
