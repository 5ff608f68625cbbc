-- `reading::next_run` meets its contract.
use mathlib.Core.Path.{◌∙◌, sym}
use native.Mathlib.Omega.{arith}
use Rattle.coding.specs.Symbols.{symbols_of}
use Rattle.reading.proofs.TakeLaws.{next-comma, next-none}
use Rattle.reading.proofs.next_run.Goals as goal

pub returns-in_err-first : goal.returns-in_err-first
returns-in_err-first c =
    let a = c.args in
    rw c.from_residual.ensures (next-none (symbols_of a.stream.now) a.at a.limit c.in_err-first.ensures, tt)

pub returns-then-first-eq0 : goal.returns-then-first-eq0
returns-then-first-eq0 c =
    let a = c.args in
    let f = c.in_ok-first.ensures in
    (next-comma (symbols_of a.stream.now) a.at a.limit f.0 (sym f.1 ∙ c.if-first-eq0.true), omega arith)
