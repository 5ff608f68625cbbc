use mathlib.Core.Bool.{◌||◌}
use mathlib.Core.Path.{◌∙◌, ap, ap₂, refl, sym}
use Prim.Native.Nat.{ℕ}
use lib.Dec.{ltb}
use lib.ListN.{get_or}
use Rattle.morphology.specs.Lists.{tabulate}
use Rattle.containment.specs.Wild.{over}
use Rattle.containment.proofs.WildLaws.{any_more, over-min}
use Rattle.containment.proofs.row_is_wild.Goals as goal

pub loop-x-init : goal.loop-x-init
unfolding tabulate
loop-x-init c = refl

pub loop-x-preserved : goal.loop-x-preserved
loop-x-preserved c =
    let a = c.args in
    let l = c.loop-x in
    let v = get_or a.row.now l.x 0 in
    ap₂ ◌||◌ l.invariant (ap (λ (n : ℕ). ltb n v) c.min.ensures ∙ over-min v (get_or a.limits.now l.x 0) a.limit)
    ∙ sym (any_more (λ i. over (get_or a.row.now i 0) (get_or a.limits.now i 0) a.limit) l.x)
