-- `listing::list_image` meets its contract.
use mathlib.Core.Path.{◌∙◌, ap, sym}
use Prim.Native.Nat.{◌*◌, ◌+◌, ◌/◌, ℕ}
use native.Mathlib.Omega.{arith}
use lib.ListN.{replicate}
use lib.Seq.{length-take-le}
use Rattle.listing.specs.Printed.{side, side_bytes}
use Rattle.listing.proofs.PrintedLaws.{outcome_fits, plane_is, sizes, zeros-length, zeros-part}
use Rattle.listing.proofs.list_image.Goals as goal

pub overflow_mul-places : goal.overflow_mul-places
overflow_mul-places c =
    let a = c.args in
    let z = sizes a.w a.h c.ranges.w.fits c.ranges.h.fits in
    omega arith

pub overflow_mul-bytes : goal.overflow_mul-bytes
overflow_mul-bytes c =
    let a = c.args in
    let z = sizes a.w a.h c.ranges.w.fits c.ranges.h.fits in
    omega arith

pub overflow_mul-bytes-2 : goal.overflow_mul-bytes-2
overflow_mul-bytes-2 c =
    let a = c.args in
    let z = sizes a.w a.h c.ranges.w.fits c.ranges.h.fits in
    omega arith

pub slice_bounds-list_within-end : goal.slice_bounds-list_within-end
slice_bounds-list_within-end c =
    let a = c.args in
    let z = sizes a.w a.h c.ranges.w.fits c.ranges.h.fits in
    omega (arith, zeros-length (side * side) a.labels.now c.requires.0)

pub slice_bounds-list_within-end-2 : goal.slice_bounds-list_within-end-2
slice_bounds-list_within-end-2 c =
    let a = c.args in
    let z = sizes a.w a.h c.ranges.w.fits c.ranges.h.fits in
    sym (length-take-le (a.w * a.h) a.labels.now (omega (arith, zeros-length (side * side) a.labels.now c.requires.0)))

pub slice_bounds-list_within-end-3 : goal.slice_bounds-list_within-end-3
slice_bounds-list_within-end-3 c =
    let a = c.args in
    let z = sizes a.w a.h c.ranges.w.fits c.ranges.h.fits in
    omega (arith, zeros-length (3 * (side * side_bytes)) a.work.now c.requires.1)

pub slice_bounds-list_within-end-4 : goal.slice_bounds-list_within-end-4
slice_bounds-list_within-end-4 c =
    let a = c.args in
    let z = sizes a.w a.h c.ranges.w.fits c.ranges.h.fits in
    sym (length-take-le (3 * (a.h * ((a.w + 7) / 8))) a.work.now (omega (arith, zeros-length (3 * (side * side_bytes)) a.work.now c.requires.1)))

pub list_within-requires : goal.list_within-requires
list_within-requires c =
    let a = c.args in
    let z = sizes a.w a.h c.ranges.w.fits c.ranges.h.fits in (
      zeros-part (a.w * a.h) (side * side) a.labels.now c.requires.0 (omega arith),
      zeros-part (3 * (a.h * ((a.w + 7) / 8))) (3 * (side * side_bytes)) a.work.now c.requires.1 (omega arith)
          ∙ ap (λ (n : ℕ). replicate (3 * n) 0) (sym (plane_is a.w a.h)),
      record { fits = omega (arith, outcome_fits a.w a.h a.element a.image.now z, c.requires.2) },
    )
