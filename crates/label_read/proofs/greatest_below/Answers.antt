use mathlib.Core.Bool.{cond}
use mathlib.Core.Path.{◌∙◌, ◌≡◌, ap, refl, sym}
use Prim.Native.Nat.{max, ℕ}
use native.Mathlib.Omega.{arith}
use lib.Dec.{ltb}
use lib.ListN.{get_or}
use Rattle.morphology.specs.Lists.{greatest}
use Rattle.label_read.specs.Points.{greatest_below}
use Rattle.label_read.proofs.PointLaws.{below_more, under_ge, under_lt}
use Rattle.label_read.proofs.greatest_below.Goals as goal
use Rattle.label_read.proofs.greatest_below.Goals.{then-b-v, else-b-v}

pub loop-b-init : goal.loop-b-init
unfolding greatest greatest_below
loop-b-init c = refl

pub loop-b-preserved : goal.loop-b-preserved
loop-b-preserved c =
    let l = c.loop-b in
    let v = c.args.v in
    let b : ℕ = get_or c.args.row.now l.b-index 0 in
    let under : c.if-b-v.below ≡ cond (ltb b v) b 0 = elim c.if-b-v.branch
    [ then-b-v w ↦ w.below-is ∙ sym (under_lt b v w.if-b-v.true) | else-b-v w ↦ w.below-is ∙ sym (under_ge b v w.if-b-v.false) ] in
    c.max-m.ensures ∙ ap (max l.m) under ∙ below_more v c.args.row.now l.b-index l.m (omega arith) l.invariant
