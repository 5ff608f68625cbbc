-- `iteration::erode_times` meets its contract.
-- The invariant: the first plane is eroded as often as the loop has run. An empty plane ends the loop early, since it stays empty.
use Rattle.morphology.specs.Element.{offsets}
use Rattle.morphology.specs.Image.{image_set}
use Rattle.morphology.specs.Morphology.{erode, times}
use Rattle.iteration.specs.Steps.{First}
use Rattle.iteration.proofs.erode_times.Given as goal

abbrev pub invariant-loop-erosion : goal.invariant-loop-erosion
invariant-loop-erosion l = First l.fn.f.w l.fn.f.h l.fn.f.p (erode (times (offsets l.element) l._erosion) (image_set l.fn.f.w l.fn.f.h l.initial.work)) l.initial.work l.work
