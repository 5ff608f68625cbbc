-- `sections::load_few` meets its contract. The invariant: v is the first k of the n bytes as a word.
use Prim.Native.Nat.{◌*◌}
use Rattle.sections.specs.Words.{Word}
use Rattle.sections.proofs.load_few.Given as goal

abbrev pub invariant-loop-k : goal.invariant-loop-k
invariant-loop-k l = Word l.s (8 * l.i) (8 * l.k) l.v
