use native.Mathlib.Omega.{arith}
use Rattle.numbers.proofs.NumberLaws.{counters-written}
use Rattle.numbers.proofs.write_counters.Goals as goal

pub returns : goal.returns
returns c =
    let m = c.loop-i.invariant in
    counters-written c.args.counters.now c.loop-i.bytes (omega arith) (λ k h. m.done k (omega arith))
