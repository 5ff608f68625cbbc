-- `thinning::hit_or_miss`: out holds what the mask hits, and its ones are the area.
use mathlib.Core.Path.{◌∙◌, ap, sym}
use native.Mathlib.Omega.{arith}
use lib.ListN.{length}
use Rattle.morphology.specs.Answers.{foreground}
use Rattle.morphology.specs.Image.{image_set}
use Rattle.morphology.specs.Operations.{hit_or_miss}
use Rattle.morphology.specs.Thinning.{hit}
use Rattle.morphology.proofs.ImageLaws.{length-pack}
use Rattle.raster.proofs.PackLaws.{frame-bytes}
use Rattle.refusals.proofs.RowLaws.{call_refused}
use Rattle.thinning.proofs.CallLaws.{hit_ready}
use Rattle.thinning.proofs.HitLaws.{hit-outcome}
use Rattle.thinning.proofs.hit_or_miss.Goals as goal

pub returns-in_err-hit_refusal : goal.returns-in_err-hit_refusal
unfolding hit_or_miss
returns-in_err-hit_refusal c = call_refused foreground _ _ _ _ _ c.from_residual.ensures.1 c.in_err-hit_refusal.ensures

pub new-f-requires : goal.new-f-requires
new-f-requires c =
    let a = c.args in
    (hit_ready a.w a.h a.fg a.bg a.image.now a.out.now c.in_ok-hit_refusal.ensures).frame

pub hit_plane-requires : goal.hit_plane-requires
hit_plane-requires c =
    let a = c.args in
    let d = hit_ready a.w a.h a.fg a.bg a.image.now a.out.now c.in_ok-hit_refusal.ensures in
    let f = c.new-f.result.sheet.frame in
    let q = frame-bytes f in
    let e = c.new-f.ensures in
    (rw (← e.0, ← e.1) at d.image ∙ sym q, rw (← e.0, ← e.1) at d.out ∙ sym q, d.mask, rw (e.0, e.1) d.clean)

pub count_ones-area-requires : goal.count_ones-area-requires
count_ones-area-requires c =
    let a = c.args in
    let d = hit_ready a.w a.h a.fg a.bg a.image.now a.out.now c.in_ok-hit_refusal.ensures in
    omega (arith, d.small, ap length (rw (c.new-f.ensures.0, c.new-f.ensures.1) at c.hit_plane.ensures) ∙ length-pack a.w a.h (hit a.w a.h (a.fg, a.bg) (image_set a.w a.h a.image.now)))

pub returns : goal.returns
returns c =
    let a = c.args in
    let e = c.in_ok-hit_refusal.ensures in
    let d = hit_ready a.w a.h a.fg a.bg a.image.now a.out.now e in
    hit-outcome a.w a.h (a.fg, a.bg) a.image.now a.out.now _ _ d.mask (sym e) (rw (c.new-f.ensures.0, c.new-f.ensures.1) at c.hit_plane.ensures) c.count_ones-area.ensures
