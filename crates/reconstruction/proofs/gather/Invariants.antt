-- `reconstruction::gather` meets its contract.
-- The invariant: the plane has the points of sizes from n on, gathered, tops each row's largest label not above n, and nothing fell off.
use mathlib.Core.Bool.{false}
use mathlib.Core.Path.{◌≡◌}
use Prim.Native.Nat.{max}
use Rattle.morphology.specs.Element.{offsets}
use Rattle.label_read.specs.Points.{Tops}
use Rattle.iteration.specs.Steps.{First}
use Rattle.reconstruction.specs.Gathered.{gathered}
use Rattle.reconstruction.proofs.gather.Given as goal

abbrev pub invariant-loop-n : goal.invariant-loop-n
invariant-loop-n l = First l.fn.f.w l.fn.f.h l.fn.f.p (gathered l.fn.f.w l.fn.f.h (offsets l.element) l.labels (max l.n l.cut)) l.initial.work l.work × Tops l.fn.f.w l.fn.f.h l.n l.labels l.tops × (l.clipped ≡ false)
