use native.Mathlib.Omega.{arith}
use Rattle.numbers.proofs.NumberLaws.{counters_read}
use Rattle.numbers.proofs.read_counters.Goals as goal

pub returns : goal.returns
returns c =
    let m = c.loop-i.invariant in
    counters_read c.args.bytes.now c.loop-i.counters (omega arith) (λ j h. m.done j (omega arith))
