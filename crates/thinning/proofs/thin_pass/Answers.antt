use mathlib.Core.Path.{◌∙◌, sym}
use native.Mathlib.Omega.{arith}
use Rattle.morphology.specs.Element.{is_mask}
use Rattle.morphology.specs.Lists.{tabulate}
use Rattle.iteration.proofs.StepLaws.{sheet-bytes}
use Rattle.thinning.proofs.PassLaws.{begun, entry_is, masks-plane, pass-start, pass_turn, takes_all, takes_entry}
use Rattle.thinning.proofs.thin_pass.Goals as goal

pub loop-mask-init : goal.loop-mask-init
loop-mask-init c =
    let a = c.args in
    pass-start a.f.w a.f.h a.f.p a.image.now a.work.now

pub thin_step-requires : goal.thin_step-requires
unfolding is_mask tabulate
thin_step-requires c =
    let a = c.args in
    let l = c.loop-mask in
    let k = l.mask-index in
    let q = sheet-bytes c.args.f.sheet in
    let g = begun c.args.f.sheet c.requires.0 (λ i. (c.slice_known-1.given i).fits) c.requires.2 in
    let m = masks-plane a.f.w a.f.h a.f.p k a.image.now l.image a.work.now l.work g l.invariant in (
      m.size ∙ sym q,
      omega (arith, l.invariant.size, c.requires.1),
      rw takes_entry (takes_all 8 k (omega (arith, c.loop-mask-test.true))),
      m.clean,
    )

pub loop-mask-preserved : goal.loop-mask-preserved
loop-mask-preserved c =
    let a = c.args in
    let l = c.loop-mask in
    let k = l.mask-index in
    pass_turn a.f.w a.f.h a.f.p k _ a.image.now l.image _ a.work.now l.work _ (omega (arith, c.loop-mask-test.true)) (entry_is k) l.invariant c.thin_step.ensures
