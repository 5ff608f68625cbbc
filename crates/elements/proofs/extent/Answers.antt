-- `elements::extent` meets its contract.
use Rattle.elements.proofs.ExtentLaws.{extent-none, extent_one, extent_two}
use Rattle.elements.proofs.extent.Goals as goal

pub returns-then-element-outer-ne0 : goal.returns-then-element-outer-ne0
returns-then-element-outer-ne0 c = extent_two _ _ _ _ c.lines-outer.ensures.0 c.if-element-outer-ne0.true

pub returns-then-element-inner-ne0 : goal.returns-then-element-inner-ne0
returns-then-element-inner-ne0 c = let e = c.lines-outer.ensures in extent_one _ _ _ _ e.0 _ e.1 c.if-element-outer-ne0.false c.if-element-inner-ne0.true

pub returns : goal.returns
returns c = let e = c.lines-outer.ensures in extent-none _ _ _ _ e.0 _ e.1 c.if-element-outer-ne0.false c.if-element-inner-ne0.false
