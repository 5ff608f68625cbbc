use Rattle.std.proofs.Common.{eqb, not, take, arith, refl, length-take-le}
use Rattle.morphology.specs.Lists.{count_of}
use Rattle.morphology.proofs.CountLaws.{count_le, count-take}
use Rattle.minimal.proofs.sizes.points_of.Goals as goal

pub loop-label-init : goal.loop-label-init
unfolding count_of
loop-label-init c = refl

pub overflow_add-n : goal.overflow_add-n
overflow_add-n c =
    let m = c.args.labels.now in
    let i = c.loop-label.label-index in
    grind (arith, count_le (λ v. not (eqb v 0)) (take i m), length-take-le i m (omega arith))

pub loop-label-preserved : goal.loop-label-preserved
loop-label-preserved c =
    grind (arith, count-take (λ v. not (eqb v 0)) c.args.labels.now c.loop-label.label-index (omega arith))
