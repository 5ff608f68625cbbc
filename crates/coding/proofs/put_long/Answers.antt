use native.Mathlib.Omega.{arith}
use Rattle.coding.proofs.StoreLaws.{half-comma, half_in, half_more}
use Rattle.coding.proofs.put_long.Goals as goal

pub put-requires : goal.put-requires
put-requires c =
    let a = c.args in
    let l = c.loop-k in
    let old = a.stream.now in
    let t = c.loop-k-test.true in (
      half_in old l.stream a.j a.n l.left l.k l.invariant t c.requires.1,
      omega arith,
      half-comma old l.stream a.j a.n l.left l.k l.invariant t c.requires.2,
    )

pub loop-k-preserved : goal.loop-k-preserved
loop-k-preserved c =
    let a = c.args in
    let l = c.loop-k in
    half_more a.stream.now l.stream a.j a.n l.left l.k l.invariant c.put.new.stream c.loop-k-test.true c.put.ensures
