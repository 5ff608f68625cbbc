use mathlib.Core.Path.{◌∙◌, ap}
use Prim.Native.Nat.{◌+◌, ◌-◌}
use native.Mathlib.Omega.{arith}
use mathlib.Core.List.{List}
use Prim.Native.Nat.{ℕ}
use lib.ListN.{get_or}
use Rattle.placing.proofs.RowLaws.{bytes_all, bytes_more, bytes-none, last_byte}
use Rattle.placing.proofs.store.Goals as goal

pub loop-i-init : goal.loop-i-init
loop-i-init c = bytes-none c.args.a c.args.n c.args.v c.args.plane.now

pub loop-i-preserved : goal.loop-i-preserved
loop-i-preserved c =
    let a = c.args in
    let i = c.loop-i.i in
    let e = ap (λ (l : List ℕ). get_or l (8 - a.n + i) 0) c.to_be_bytes-bytes.ensures ∙ last_byte a.n a.v i c.requires.1 c.loop-i-test.true in
    bytes_more _ (omega (arith, c.requires.0)) e c.loop-i.invariant

pub returns : goal.returns
returns c =
    let a = c.args in
    let l = c.loop-i in
    bytes_all a.a a.n a.v l.i a.plane.now l.plane (omega arith) l.invariant
