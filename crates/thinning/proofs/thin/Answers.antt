-- `thinning::thin`: what the passes leave is the outcome, and work is cleared.
use mathlib.Core.Path.{◌∙◌, ◌≡◌, sym}
use native.Mathlib.Omega.{arith}
use Rattle.morphology.specs.Image.{plane_bytes}
use Rattle.morphology.specs.Operations.{thin}
use Rattle.refusals.proofs.RowLaws.{call_refused}
use Rattle.iteration.proofs.StepLaws.{sheet-bytes, sheet-small}
use Rattle.thinning.specs.Thinned.{done}
use Rattle.thinning.proofs.CallLaws.{thin_ready}
use Rattle.thinning.proofs.EndLaws.{thin_done}
use Rattle.thinning.proofs.thin.Goals as goal

pub returns-in_err-thin_refusal : goal.returns-in_err-thin_refusal
unfolding thin
returns-in_err-thin_refusal c = call_refused done _ _ _ _ _ c.from_residual.ensures.1 c.in_err-thin_refusal.ensures

pub new-f-requires : goal.new-f-requires
new-f-requires c =
    let a = c.args in
    (thin_ready a.w a.h a.image.now a.work.now c.in_ok-thin_refusal.ensures).frame

pub thin_passes-done-requires : goal.thin_passes-done-requires
thin_passes-done-requires c =
    let a = c.args in
    let d = thin_ready a.w a.h a.image.now a.work.now c.in_ok-thin_refusal.ensures in
    let e = c.new-f.ensures in
    let f = c.new-f.result in
    let b : f.p ≡ plane_bytes f.w f.h = sheet-bytes f.sheet in
    let q = rw (e.0, e.1) at b in
    (d.image ∙ sym q, omega (arith, d.work, q), rw (e.0, e.1) d.clean)

pub clear_work-requires : goal.clear_work-requires
clear_work-requires c =
    let a = c.args in
    let d = thin_ready a.w a.h a.image.now a.work.now c.in_ok-thin_refusal.ensures in
    let e = c.new-f.ensures in
    let f = c.new-f.result in
    let b : f.p ≡ plane_bytes f.w f.h = sheet-bytes f.sheet in
    let q = rw (e.0, e.1) at b in
    (omega (arith, d.work, q, c.thin_passes-done.ensures.size), omega (arith, sheet-small c.new-f.result.sheet))

pub returns : goal.returns
returns c =
    let a = c.args in
    let e = c.new-f.ensures in
    let f = c.new-f.result in
    let b : f.p ≡ plane_bytes f.w f.h = sheet-bytes f.sheet in
    let q = rw (e.0, e.1) at b in
    thin_done a.w a.h _ a.image.now a.work.now _ _ _ _ _ _ (sym c.in_ok-thin_refusal.ensures) q
    (rw (e.0, e.1) at c.thin_passes-done.ensures) c.clear_work.ensures
