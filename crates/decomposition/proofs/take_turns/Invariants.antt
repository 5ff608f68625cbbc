-- `decomposition::take_turns` meets its contract.
-- The invariant: after n turns work and labels are as `Turns` says, the rows that hold ink are those of the band, and nothing fell off. The measure is the larger side less n.
use mathlib.Core.Bool.{false}
use mathlib.Core.Path.{◌≡◌}
use Prim.Native.Nat.{◌-◌, max}
use lib.ListN.{take}
use Rattle.morphology.specs.Element.{offsets}
use Rattle.morphology.specs.Image.{image_set}
use Rattle.iteration.specs.Bands.{Banded}
use Rattle.decomposition.specs.Turns.{Turns}
use Rattle.decomposition.proofs.take_turns.Given as goal

abbrev pub invariant-loop-from : goal.invariant-loop-from
invariant-loop-from l = Turns l.fn.f.w l.fn.f.h l.fn.f.p (offsets l.element) (image_set l.fn.f.w l.fn.f.h l.initial.work) l.n l.initial.work l.work l.labels l.points × Banded l.fn.f.h l.fn.f.r l.from l.to (take l.fn.f.p l.work) × (l.clipped ≡ false)

abbrev pub decreases-loop-from : goal.decreases-loop-from
decreases-loop-from l = max l.fn.f.w l.fn.f.h - l.n
