use Prim.Native.Nat.{◌+◌}
use native.Mathlib.Omega.{arith}
use Rattle.sections.proofs.PlaneLaws.{word_byte_lem, word_small}
use Rattle.sections.proofs.load_few.Goals as goal

pub overflow_mul-v : goal.overflow_mul-v
overflow_mul-v c = omega (arith, word_small 56 c.loop-k.invariant (omega arith))

pub overflow_add-v-in-loop-k : goal.overflow_add-v-in-loop-k
overflow_add-v-in-loop-k c = omega (arith, word_small 56 c.loop-k.invariant (omega arith), (c.type_inv.s (c.args.i + c.loop-k.k)).fits)

pub loop-k-preserved : goal.loop-k-preserved
loop-k-preserved c =
    let a = c.args in
    let l = c.loop-k in
    word_byte_lem a.s.now a.i l.k l.v (c.type_inv.s (a.i + l.k)).fits l.invariant
