-- `numbers::write_counters` meets its contract. The invariant: the bytes of the first i counters are written.
use Prim.Native.Nat.{◌*◌}
use Rattle.raster.proofs.LoopLaws.{Mapped}
use Rattle.numbers.proofs.NumberLaws.{byte_at}
use Rattle.numbers.proofs.write_counters.Given as goal

abbrev pub invariant-loop-i : goal.invariant-loop-i
invariant-loop-i l = Mapped (byte_at l.counters) l.initial.bytes l.bytes (2 * l.i)
