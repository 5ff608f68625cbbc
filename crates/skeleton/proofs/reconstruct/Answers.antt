-- `skeleton::reconstruct`: what is written is the reconstruction.
use Rattle.morphology.specs.Answers.{foreground}
use Rattle.morphology.specs.Element.{offsets}
use Rattle.morphology.specs.Operations.{reconstruct_rows, reconstructed}
use Rattle.morphology.specs.Skeleton.{reconstruction}
use Rattle.refusals.proofs.RowLaws.{call_refused}
use Rattle.skeleton.proofs.OutcomeLaws.{writes_done}
use Rattle.skeleton.proofs.ReadyLaws.{kept_ready}
use Rattle.skeleton.proofs.reconstruct.Goals as goal

pub returns-in_err-reconstruct_refusal : goal.returns-in_err-reconstruct_refusal
unfolding reconstructed
returns-in_err-reconstruct_refusal c = call_refused foreground _ _ _ _ _ c.from_residual.ensures.1 c.in_err-reconstruct_refusal.ensures

pub new-f-requires : goal.new-f-requires
new-f-requires c =
    let a = c.args in
    (kept_ready a.w a.h a.element a.cut a.labels.now a.image.now a.work.now c.in_ok-reconstruct_refusal.ensures).frame

pub reconstruct_into-done-requires : goal.reconstruct_into-done-requires
reconstruct_into-done-requires c =
    let a = c.args in
    rw (c.new-f.ensures.0, c.new-f.ensures.1) (kept_ready a.w a.h a.element a.cut a.labels.now a.image.now a.work.now c.in_ok-reconstruct_refusal.ensures)

pub returns : goal.returns
unfolding reconstructed
returns c =
    let a = c.args in
    writes_done (reconstruct_rows a.w a.h a.element a.cut a.labels.now a.image.now a.work.now) a.w a.h
    (reconstruction a.w a.h (offsets a.element) a.cut a.labels.now) a.image.now a.work.now _ _ _ c.in_ok-reconstruct_refusal.ensures
    (rw (c.new-f.ensures.0, c.new-f.ensures.1) at c.reconstruct_into-done.ensures.image)
