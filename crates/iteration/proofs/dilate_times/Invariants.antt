-- `iteration::dilate_times` meets its contract. An empty plane is left as it is.
-- The invariant: the first plane is dilated as often as the loop has run, and what fell off so far is what the element that many times makes fall off.
use mathlib.Core.Path.{◌≡◌}
use Rattle.morphology.specs.Element.{offsets}
use Rattle.morphology.specs.Falls.{falls_off}
use Rattle.morphology.specs.Image.{image_set}
use Rattle.morphology.specs.Morphology.{times}
use Rattle.iteration.specs.Steps.{First, dilated}
use Rattle.iteration.proofs.dilate_times.Given as goal

abbrev pub invariant-loop-dilation : goal.invariant-loop-dilation
invariant-loop-dilation l = First l.fn.f.w l.fn.f.h l.fn.f.p (dilated l.fn.f.w l.fn.f.h (offsets l.element) l._dilation (image_set l.fn.f.w l.fn.f.h l.initial.work)) l.initial.work l.work × (l.clipped ≡ falls_off l.fn.f.w l.fn.f.h (times (offsets l.element) l._dilation) (image_set l.fn.f.w l.fn.f.h l.initial.work))
