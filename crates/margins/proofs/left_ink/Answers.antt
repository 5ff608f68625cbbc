-- `margins::left_ink` meets its contract: the first columns are the first pixels of the first bytes.
use native.Mathlib.Omega.{arith}
use Rattle.margins.proofs.ColumnLaws.{none-ink, start-ink}
use Rattle.margins.proofs.left_ink.Goals as goal

pub returns-then-left-eq0 : goal.returns-then-left-eq0
returns-then-left-eq0 c =
    let a = c.args in
    none-ink a.s.now a.r a.h 0 a.left (omega (arith, c.if-left-eq0.true))

pub returns : goal.returns
returns c =
    let a = c.args in
    start-ink a.s.now a.r a.h _ a.left (omega arith) c.requires.2 c.seen.ensures
