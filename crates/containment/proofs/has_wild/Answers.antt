use mathlib.Core.Path.{◌∙◌, refl, sym}
use native.Mathlib.Omega.{arith}
use Rattle.morphology.specs.Element.{offsets}
use Rattle.morphology.specs.Lists.{tabulate}
use Rattle.morphology.proofs.ElementLaws.{element}
use Rattle.containment.proofs.WildLaws.{wild_last, wild_stop, wild_turn}
use Rattle.containment.proofs.has_wild.Goals as goal

pub loop-y-init : goal.loop-y-init
unfolding tabulate
loop-y-init c = (
  record {
    shape = element c.args.element c.requires.2;
    size = c.requires.1;
    labels = λ i. omega (arith, c.type_inv.labels i);
    reach = c.of-left.ensures;
    columns = c.column_limits.ensures;
    room = omega (arith, c.column_limits.auto.limits, c.requires.0);
  },
  refl,
)

pub returns-then-row_is_wild : goal.returns-then-row_is_wild
returns-then-row_is_wild c =
    let l = c.loop-y in
    wild_stop l.invariant.0 l.y c.loop-y-test.true _ c.limit_at.ensures (sym c.row_is_wild.ensures ∙ c.if-row_is_wild.true)

pub loop-y-preserved : goal.loop-y-preserved
loop-y-preserved c =
    let l = c.loop-y in (
      l.invariant.0,
      wild_turn l.invariant.0 l.y c.loop-y-test.true _ c.limit_at.ensures (sym c.row_is_wild.ensures ∙ c.if-row_is_wild.false) l.invariant.1,
    )

pub returns : goal.returns
returns c =
    let a = c.args in
    let l = c.loop-y in
    wild_last a.w a.h (offsets a.element) a.labels.now l.y (omega arith) l.invariant.1
