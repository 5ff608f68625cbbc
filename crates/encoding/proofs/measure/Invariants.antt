-- `encoding::measure` meets its contract. The invariant: the sizes so far are measured, and the plane of the next stands in work.
-- The measure is the larger side less the sizes: a size with ink is below it.
use Prim.Native.Nat.{◌-◌, max}
use Rattle.encoding.proofs.MeasureLaws.{Counted}
use Rattle.encoding.proofs.measure.Given as goal

abbrev pub invariant-loop-f : goal.invariant-loop-f
invariant-loop-f l = Counted l.fn.f.w l.fn.f.h l.fn.f.p l.element l.initial.work l.total.sizes l.total.symbols l.lengths l.work

abbrev pub decreases-loop-f : goal.decreases-loop-f
decreases-loop-f l = max l.fn.f.w l.fn.f.h - l.total.sizes
