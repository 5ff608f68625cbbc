-- Each case is printed as stated, by computing.
use mathlib.Core.Path.{refl}
use Rattle.morphology.specs.Element.{is_element, offset, offsets, offsets_below}
use Rattle.morphology.specs.Image.{bit_of, image_set, is_clean, pixel, stride}
use Rattle.morphology.specs.Labels.{raster}
use Rattle.morphology.specs.Lists.{count_of, greatest, tabulate}
use Rattle.morphology.specs.Morphology.{dilate, erode, minkowski, opening, times}
use Rattle.morphology.specs.Operations.{cleared_planes, decomposed}
use Rattle.morphology.specs.Point.{◌⊞◌, minus, origin}
use Rattle.morphology.specs.Refusals.{first_refusal}
use Rattle.morphology.specs.Skeleton.{pick, skeleton_function, skeleton_labels, skeleton_subset}
use Rattle.listing.specs.Cases.{Settled}
use Rattle.listing.specs.Printed.{answer_text, printed, refusal_text, skeleton_text}
use Rattle.listing.specs.Text.{after, decimal, digits, line, map_text, spaced}

pub settled : Settled
unfolding after digits decimal spaced line map_text refusal_text skeleton_text answer_text printed ◌⊞◌ origin minus stride bit_of pixel image_set offset offsets_below offsets tabulate greatest pick erode dilate opening minkowski times skeleton_subset skeleton_function skeleton_labels raster count_of is_clean cleared_planes is_element first_refusal decomposed
settled = refl
