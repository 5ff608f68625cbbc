use mathlib.Core.Path.{◌≡◌}
use native.Mathlib.Omega.{arith}
use lib.ListN.{length}
use Rattle.morphology.specs.Image.{bit_of}
use Rattle.label_write.proofs.LabelLaws.{ones-first, row_labelled}
use Rattle.label_write.proofs.label_few.Goals as goal

pub returns : goal.returns
returns c =
    let a = c.args in
    let l = c.loop-x in
    let e : length l.labels ≡ l.x = omega arith in
    let o = ones-first a.byte (length l.labels) (omega arith) (omega arith) in
    row_labelled (bit_of a.byte) a.v a.labels.now l.labels l.x _ (omega arith) l.invariant cc
