-- Each settled case of 01 comes out as 01 says, by computing.
use mathlib.Core.Path.{refl}
use Rattle.morphology.specs.Cases.{Settled, cases}
use Rattle.morphology.specs.Element.{is_element, is_mask, offset, offsets, offsets_below}
use Rattle.morphology.specs.Image.{bit_of, from_bits, image_set, is_clean, pack, pixel, stride}
use Rattle.morphology.specs.Labels.{area, label_at, places, raster}
use Rattle.morphology.specs.Lists.{count_of, greatest, tabulate}
use Rattle.morphology.specs.Minimal.{drop_at, drop_size, drop_sizes, is_redundant, minimal_below, minimal_labels}
use Rattle.morphology.specs.Morphology.{dilate, erode, minkowski, opening, times}
use Rattle.morphology.specs.Operations.{cleared_planes, decomposed, hit_or_miss, minimised, reconstructed, thin}
use Rattle.morphology.specs.Point.{◌⊞◌, minus, origin, same_integer, same_point}
use Rattle.morphology.specs.Refusals.{first_refusal, is_wild, leaves}
use Rattle.morphology.specs.Skeleton.{pick, reconstruct, reconstruction, skeleton_function, skeleton_labels, skeleton_subset, stamp}
use Rattle.morphology.specs.Thinning.{hit, interior, thin_pass, thin_passes, thin_step}

pub settled : Settled
unfolding cases ◌⊞◌ origin minus stride bit_of pixel image_set offset offsets_below offsets tabulate from_bits pack greatest pick erode dilate opening minkowski times skeleton_subset skeleton_function skeleton_labels stamp reconstruct reconstruction same_integer same_point places raster label_at count_of area is_clean cleared_planes is_element is_mask leaves is_wild first_refusal is_redundant drop_at drop_size drop_sizes minimal_below minimal_labels hit interior thin_step thin_pass thin_passes decomposed reconstructed minimised hit_or_miss thin
settled = refl
