-- `label_write::label_rows` meets its contract.
-- The invariant: the labels of the rows from y up to i are written and counted in n, whatever the height.
use Prim.Native.Nat.{◌≤◌, ℕ}
use Rattle.label_write.specs.Labelled.{RowsLabelled, lacking}
use Rattle.label_write.proofs.label_rows.Given as goal

abbrev pub invariant-loop-i : goal.invariant-loop-i
invariant-loop-i l = (h : ℕ) → l.e ≤ h → RowsLabelled l.w (lacking l.w h l.q l.s) l.v l.y l.i l.initial.labels l.labels l.n
