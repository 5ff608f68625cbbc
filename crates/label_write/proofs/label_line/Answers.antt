-- `label_write::label_line` meets its contract.
use mathlib.Core.Path.{◌∙◌, sym}
use Prim.Native.Nat.{◌*◌, ◌+◌}
use native.Mathlib.Omega.{arith}
use Rattle.label_write.proofs.LabelLaws.{row_same, same_bytes}
use Rattle.label_write.proofs.label_line.Goals as goal

pub returns-then-same_rows : goal.returns-then-same_rows
returns-then-same_rows c =
    let a = c.args in
    row_same a.s.now (a.y * a.r) (a.q + a.y * a.r) a.r (a.y * a.w) a.w a.v a.labels.now (omega (arith, c.requires.0))
    (same_bytes a.s.now (a.y * a.r) (a.q + a.y * a.r) a.r (sym c.same_rows.ensures ∙ c.if-same_rows.true))
