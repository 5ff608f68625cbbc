-- `refusals::bad_element` meets its contract.
use Rattle.refusals.proofs.SideLaws.{element-count, element-high, element-no-origin}
use Rattle.refusals.proofs.bad_element.Goals as goal

pub returns-then-mask-ge-MASK_END : goal.returns-then-mask-ge-MASK_END
returns-then-mask-ge-MASK_END c = element-high _ c.if-mask-ge-MASK_END.true

pub returns-then-mask-eq0 : goal.returns-then-mask-eq0
returns-then-mask-eq0 c = element-no-origin _ c.if-mask-ge-MASK_END.false c.if-mask-eq0.true

pub returns : goal.returns
returns c = element-count _ c.if-mask-ge-MASK_END.false c.if-mask-eq0.false
