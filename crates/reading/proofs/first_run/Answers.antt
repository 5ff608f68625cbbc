-- `reading::first_run` meets its contract.
use mathlib.Core.Path.{◌∙◌, sym}
use Prim.Native.Nat.{◌-◌}
use native.Mathlib.Omega.{arith}
use Rattle.coding.specs.Symbols.{symbols_of}
use Rattle.reading.proofs.TakeLaws.{digit_read, first_digit, first_ended, first-lost, first-none, first_one}
use Rattle.reading.proofs.first_run.Goals as goal

pub returns-in_err-first : goal.returns-in_err-first
returns-in_err-first c =
    let a = c.args in
    rw c.from_residual.ensures (first-none (symbols_of a.stream.now) a.at a.limit c.in_err-first.ensures, tt)

pub returns-then-first-ne0 : goal.returns-then-first-ne0
returns-then-first-ne0 c =
    let a = c.args in
    let f = c.in_ok-first.ensures in
    let n = c.in_ok-first.first in
    let e = digit_read n _ f.1 c.if-first-ne0.true in
    (c.take_run.ensures.0 ∙ first_digit (symbols_of a.stream.now) a.at a.limit f.0 (n - 1) e, c.take_run.ensures.1)

pub returns-in_err-digit : goal.returns-in_err-digit
returns-in_err-digit c =
    let a = c.args in
    let f = c.in_ok-first.ensures in
    rw c.from_residual-in_err-digit.ensures
    (first_one (symbols_of a.stream.now) a.at a.limit f.0 (sym f.1 ∙ c.if-first-ne0.false) c.in_err-digit.ensures, tt)

pub returns-then-digit : goal.returns-then-digit
returns-then-digit c =
    let a = c.args in
    let f = c.in_ok-first.ensures in
    let g = c.in_ok-digit.ensures in
    let n = c.in_ok-digit.field-0 in
    let e = digit_read n _ g.1 (omega (arith, c.if-digit.true)) in
    (first-lost (symbols_of a.stream.now) a.at a.limit f.0 (sym f.1 ∙ c.if-first-ne0.false) (n - 1) g.0 e, tt)

pub returns : goal.returns
returns c =
    let a = c.args in
    let f = c.in_ok-first.ensures in
    let g = c.in_ok-digit.ensures in
    (first_ended (symbols_of a.stream.now) a.at a.limit f.0 (sym f.1 ∙ c.if-first-ne0.false) g.0 (sym g.1 ∙ omega (arith, c.if-digit.false)), omega arith)
