-- `skeleton::decompose`: what the turns found is the outcome; no turn had a point exactly where the image is empty.
use mathlib.Core.Path.{sym}
use native.Mathlib.Nat.{pos_of_ne-zero}
use Rattle.morphology.specs.Operations.{decomposed}
use Rattle.morphology.proofs.DecomposeLaws.{turns-blank, turns-skeleton}
use Rattle.refusals.proofs.RowLaws.{call_refused}
use Rattle.skeleton.specs.Decomposed.{found}
use Rattle.skeleton.proofs.OutcomeLaws.{finished-outcome}
use Rattle.skeleton.proofs.ReadyLaws.{decompose_ready}
use Rattle.skeleton.proofs.decompose.Goals as goal

pub returns-in_err-decompose_refusal : goal.returns-in_err-decompose_refusal
unfolding decomposed
returns-in_err-decompose_refusal c = call_refused found _ _ _ _ _ c.from_residual.ensures.1 c.in_err-decompose_refusal.ensures

pub new-f-requires : goal.new-f-requires
new-f-requires c =
    let a = c.args in
    (decompose_ready a.w a.h a.element a.image.now a.labels.now a.work.now c.in_ok-decompose_refusal.ensures).0.frame

pub decompose_into-found-requires : goal.decompose_into-found-requires
decompose_into-found-requires c =
    let a = c.args in
    rw (c.new-f.ensures.0, c.new-f.ensures.1) (decompose_ready a.w a.h a.element a.image.now a.labels.now a.work.now c.in_ok-decompose_refusal.ensures)

pub returns-then-turns-eq0 : goal.returns-then-turns-eq0
returns-then-turns-eq0 c =
    let a = c.args in
    let e = c.in_ok-decompose_refusal.ensures in
    let d = c.decompose_into-found in
    let r = decompose_ready a.w a.h a.element a.image.now a.labels.now a.work.now e in
    finished-outcome a.w a.h a.element r.4 a.image.now a.labels.now a.work.now _ _ d.result.turns d.result.points _ e (rw (c.new-f.ensures.0, c.new-f.ensures.1) at d.ensures.done) (rw (c.new-f.ensures.0, c.new-f.ensures.1) at d.ensures.work)
    (sym (turns-blank d.result.turns d.result.points c.if-turns-eq0.true))

pub returns : goal.returns
returns c =
    let a = c.args in
    let e = c.in_ok-decompose_refusal.ensures in
    let d = c.decompose_into-found in
    let r = decompose_ready a.w a.h a.element a.image.now a.labels.now a.work.now e in
    finished-outcome a.w a.h a.element r.4 a.image.now a.labels.now a.work.now _ _ d.result.turns d.result.points _ e (rw (c.new-f.ensures.0, c.new-f.ensures.1) at d.ensures.done) (rw (c.new-f.ensures.0, c.new-f.ensures.1) at d.ensures.work)
    (sym (turns-skeleton d.result.turns d.result.points (pos_of_ne-zero c.if-turns-eq0.false)))
