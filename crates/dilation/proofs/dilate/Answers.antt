-- `dilation::dilate` meets its contract: a refusal, or the dilation handed out.
use Rattle.refusals.proofs.RowLaws.{call_refused}
use Rattle.dilation.specs.Dilation.{dilated, dilation}
use Rattle.dilation.proofs.DilateLaws.{dilate_done, dilate_ready}
use Rattle.dilation.proofs.dilate.Goals as goal

pub returns-in_err-dilate_refusal : goal.returns-in_err-dilate_refusal
unfolding dilated
returns-in_err-dilate_refusal c = call_refused dilation _ _ _ _ _ c.from_residual.ensures.1 c.in_err-dilate_refusal.ensures

pub new-f-requires : goal.new-f-requires
new-f-requires c =
    let a = c.args in
    (dilate_ready a.w a.h a.element a.image.now a.out.now a.work.now c.in_ok-dilate_refusal.ensures).0.frame

pub dilate_into-requires : goal.dilate_into-requires
dilate_into-requires c =
    let a = c.args in
    rw (c.new-f.ensures.0, c.new-f.ensures.1) (dilate_ready a.w a.h a.element a.image.now a.out.now a.work.now c.in_ok-dilate_refusal.ensures)

pub returns : goal.returns
returns c =
    let a = c.args in
    let d = c.dilate_into.ensures in
    dilate_done a.w a.h a.element a.image.now a.out.now a.work.now c.in_ok-dilate_refusal.ensures _ _ _ _ (rw (c.new-f.ensures.0, c.new-f.ensures.1) at d.image) (rw (c.new-f.ensures.0, c.new-f.ensures.1) at d.clipped)
