-- `label_read::byte_of` meets its contract.
use native.Mathlib.Omega.{arith}
use mathlib.Core.Path.{ap, ◌∙◌, sym}
use Prim.Native.Nat.{◌+◌, ◌-◌}
use borrow.Author.Tests.{not-true}
use lib.ListN.{length}
use Rattle.label_read.proofs.PointLaws.{byte-none, byte-rest, byte-whole}
use mathlib.Core.Bool.{not}
use Rattle.label_read.proofs.byte_of.Goals as goal

pub returns-then-m-lt8 : goal.returns-then-m-lt8
returns-then-m-lt8 c =
    let a = c.args in
    let k = length a.row.now - a.x in
    byte-rest a.row.now a.v a.x k (8 - k) c.bits_of.result (omega (arith, c.requires)) (omega (arith, c.if-m-lt8.true)) c.bits_of.ensures

pub returns-then-not-has_label : goal.returns-then-not-has_label
returns-then-not-has_label c =
    let a = c.args in
    byte-none a.row.now a.v a.x (a.x + 8 - a.x) (omega (arith, c.if-m-lt8.false, c.requires)) (omega arith)
    (sym c.has_label.ensures ∙ not-true _ (ap not c.if-not-has_label.true))

pub returns : goal.returns
returns c =
    let a = c.args in
    byte-whole a.row.now a.v a.x (a.x + 8 - a.x) c.bits_of-2.result (omega (arith, c.if-m-lt8.false, c.requires)) (omega arith) c.bits_of-2.ensures
