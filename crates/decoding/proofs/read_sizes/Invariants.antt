-- `decoding::read_sizes` meets its contract.
-- The invariant: the sizes above those that are left are read, as `SizesHeld` says, and work is kept from the fourth plane on.
use Prim.Native.Nat.{◌-◌}
use Rattle.morphology.specs.Element.{offsets}
use Rattle.decoding.specs.Reads.{KeptFrom}
use Rattle.decoding.proofs.HeldLaws.{SizesHeld}
use Rattle.decoding.proofs.read_sizes.Given as goal

abbrev pub invariant-loop : goal.invariant-loop
invariant-loop l =
    SizesHeld l.fn.f.w l.fn.f.h l.fn.f.p (offsets l.element) l.stream l.largest (l.largest - l.counter) l.j l.whole l.work × KeptFrom 3 l.fn.f.p l.initial.work l.work
