use mathlib.Core.Bool.{true}
use mathlib.Core.Path.{◌≡◌, subst}
use Prim.Native.Nat.{◌*◌, ◌+◌, ℕ}
use native.Mathlib.Omega.{arith}
use lib.ListN.{replicate}
use Rattle.sections.specs.Pens.{Marked}
use Rattle.sections.proofs.PenLaws.{emptied_more, emptied-none, emptied-room, empty-comma}
use Rattle.sections.proofs.words.WritePen.empty_runs.Goals as goal

pub loop-k-init : goal.loop-k-init
loop-k-init c = emptied-none c.args.out.now c.args.at

pub put-requires : goal.put-requires
put-requires c =
    let a = c.args in
    let l = c.loop-k in
    let q = empty-comma (emptied-room a.n l.k a.out.now l.out a.at c.loop-k-test.true c.requires l.invariant) in
    (q.0, omega arith, q.1)

pub loop-k-preserved : goal.loop-k-preserved
loop-k-preserved c =
    let a = c.args in
    let l = c.loop-k in
    emptied_more a.n l.k a.out.now l.out a.at c.loop-k-test.true c.requires l.invariant c.put.new.stream c.put.ensures

pub returns : goal.returns
returns c =
    let a = c.args in
    let l = c.loop-k in
    let e : l.k ≡ a.n = omega arith in
    subst (λ (k : ℕ). Marked true (replicate k 0) a.out.now l.out a.at (a.at + 2 * k)) e l.invariant
