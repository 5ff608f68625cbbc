-- `minimal::minimise`: what is left of the labels is the outcome.
use Rattle.morphology.specs.Answers.{minimal}
use Rattle.morphology.specs.Operations.{minimised}
use Rattle.refusals.proofs.RowLaws.{call_refused}
use Rattle.minimal.proofs.MinimiseLaws.{minimise_done, passed, passed-frame}
use Rattle.minimal.proofs.minimise.Goals as goal

pub returns-in_err-minimise_refusal : goal.returns-in_err-minimise_refusal
unfolding minimised
returns-in_err-minimise_refusal c = call_refused minimal _ _ _ _ _ c.from_residual.ensures.1 c.in_err-minimise_refusal.ensures

pub new-f-requires : goal.new-f-requires
new-f-requires c =
    let a = c.args in
    passed-frame (passed a.w a.h a.element a.labels.now a.work.now a.counters.now c.in_ok-minimise_refusal.ensures)

pub minimise_into-shorter-requires : goal.minimise_into-shorter-requires
minimise_into-shorter-requires c =
    let a = c.args in
    rw (c.new-f.ensures.0, c.new-f.ensures.1) (passed a.w a.h a.element a.labels.now a.work.now a.counters.now c.in_ok-minimise_refusal.ensures)

pub returns : goal.returns
returns c =
    let a = c.args in
    minimise_done a.w a.h a.element a.labels.now a.work.now a.counters.now c.in_ok-minimise_refusal.ensures _ _ _ _ (rw (c.new-f.ensures.0, c.new-f.ensures.1) at c.minimise_into-shorter.ensures.done)
