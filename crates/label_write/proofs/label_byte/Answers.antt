-- `label_write::label_byte` meets its contract.
use mathlib.Core.Path.{◌∙◌, sym}
use Prim.Native.Nat.{◌+◌, ◌-◌}
use native.Mathlib.Omega.{arith}
use Rattle.morphology.specs.Image.{bit_of}
use Rattle.raster.proofs.ByteLaws.{zero_bit}
use Rattle.label_write.specs.Labelled.{left_at}
use Rattle.label_write.proofs.LabelLaws.{left_byte, row_as, row_back, row-blank}
use Rattle.label_write.proofs.label_byte.Goals as goal

pub returns-then-left-eq0 : goal.returns-then-left-eq0
returns-then-left-eq0 c =
    let a = c.args in
    row-blank a.at a.m (left_at a.s.now a.a a.b) a.v a.labels.now
    (λ x l. sym (left_byte a.s.now a.a a.b x (omega (arith, c.requires.2))) ∙ zero_bit _ x c.if-left-eq0.true)

pub returns : goal.returns
returns c =
    let a = c.args in
    row_as a.at a.m _ (left_at a.s.now a.a a.b) a.v a.labels.now _ _ (λ x l. left_byte a.s.now a.a a.b x (omega (arith, c.requires.2)))
    (row_back a.at a.m (a.at + a.m - a.at) (bit_of _) a.v a.labels.now _ _ (omega arith) c.requires.3 c.label_few.ensures)
