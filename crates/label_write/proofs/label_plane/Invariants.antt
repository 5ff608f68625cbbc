-- `label_write::label_plane` meets its contract.
-- The invariant: the labels of the first k blocks of rows are written and counted in n.
use Rattle.std.proofs.Common.{◌*◌, min}
use Rattle.label_write.specs.Labelled.{RowsLabelled, lacking}
use Rattle.label_write.proofs.label_plane.Given as goal

abbrev pub invariant-loop-k : goal.invariant-loop-k
invariant-loop-k l = RowsLabelled l.fn.f.w (lacking l.fn.f.w l.fn.f.h l.q l.s) l.v 0 (min l.fn.f.h (16 * l.k)) l.initial.labels l.labels l.n
