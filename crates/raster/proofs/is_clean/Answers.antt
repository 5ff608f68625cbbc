use mathlib.Core.Bool.{◌&&◌}
use mathlib.Core.Path.{◌∙◌, ◌≡◌, ap₂, refl, sym}
use native.Mathlib.Omega.{arith}
use borrow.Author.Tests.{eq-eqb, ne_eqb}
use Rattle.morphology.specs.Lists.{tabulate}
use Rattle.raster.proofs.BufferLaws.{all_more, all-not, clean_with}
use Rattle.raster.proofs.is_clean.Goals as goal

pub loop-y-init : goal.loop-y-init
unfolding tabulate
loop-y-init c = refl

pub returns-then-s-last-ne0 : goal.returns-then-s-last-ne0
returns-then-s-last-ne0 c =
    let a = c.args in
    sym (clean_with a.w a.h a.r a.s.now c.requires.0 c.requires.2 c.requires.3 ∙ all-not _ a.h c.loop-y.y (omega arith) (ne_eqb _ _ c.if-s-last-ne0.true))

pub loop-y-preserved : goal.loop-y-preserved
loop-y-preserved c = all_more _ c.loop-y.y ∙ ap₂ ◌&&◌ c.loop-y.invariant (eq-eqb _ _ c.if-s-last-ne0.false)

pub returns : goal.returns
returns c =
    let a = c.args in
    let q = clean_with a.w a.h a.r a.s.now c.requires.0 c.requires.2 c.requires.3 in
    let e : c.loop-y.y ≡ a.h = omega arith in
    cc
