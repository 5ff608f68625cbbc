-- `skeleton::open`: a fold with as many dilations as erosions, which is the opening by definition.
use native.Mathlib.Omega.{arith}
use Rattle.morphology.specs.Answers.{foreground}
use Rattle.morphology.specs.Element.{offsets}
use Rattle.morphology.specs.Image.{image_set}
use Rattle.morphology.specs.Morphology.{opening, times}
use Rattle.morphology.specs.Operations.{fold_rows, opened}
use Rattle.refusals.proofs.RowLaws.{call_refused}
use Rattle.skeleton.proofs.OutcomeLaws.{writes_done}
use Rattle.skeleton.proofs.ReadyLaws.{fold_ready}
use Rattle.skeleton.proofs.open.Goals as goal

pub returns-in_err-fold_refusal : goal.returns-in_err-fold_refusal
unfolding opened
returns-in_err-fold_refusal c = call_refused foreground _ _ _ _ _ c.from_residual.ensures.1 c.in_err-fold_refusal.ensures

pub new-f-requires : goal.new-f-requires
new-f-requires c =
    let a = c.args in
    (fold_ready a.w a.h a.element a.n a.image.now a.out.now a.work.now c.in_ok-fold_refusal.ensures).0.frame

pub fold_into-done-requires : goal.fold_into-done-requires
fold_into-done-requires c =
    let a = c.args in
    let d = fold_ready a.w a.h a.element a.n a.image.now a.out.now a.work.now c.in_ok-fold_refusal.ensures in
    (rw (c.new-f.ensures.0, c.new-f.ensures.1) d.0, d.1, omega arith)

pub returns : goal.returns
unfolding opened opening
returns c =
    let a = c.args in
    writes_done (fold_rows a.w a.h a.element a.n a.image.now a.out.now a.work.now) a.w a.h
    (opening (times (offsets a.element) a.n) (image_set a.w a.h a.image.now)) a.out.now a.work.now _ _ _ c.in_ok-fold_refusal.ensures
    (rw (c.new-f.ensures.0, c.new-f.ensures.1) at c.fold_into-done.ensures.image)
