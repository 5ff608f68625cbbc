-- `thinning::bad_mask` meets its contract.
use Rattle.thinning.proofs.MaskLaws.{mask-apart, mask_bg-high, mask_fg-high, mask-no_centre}
use Rattle.thinning.proofs.bad_mask.Goals as goal

pub returns-then-fg-ge-MASK_END : goal.returns-then-fg-ge-MASK_END
returns-then-fg-ge-MASK_END c = mask_fg-high _ _ c.if-fg-ge-MASK_END.true

pub returns-then-bg-ge-MASK_END : goal.returns-then-bg-ge-MASK_END
returns-then-bg-ge-MASK_END c = mask_bg-high _ _ c.if-fg-ge-MASK_END.false c.if-bg-ge-MASK_END.true

pub returns-then-fg-eq0 : goal.returns-then-fg-eq0
returns-then-fg-eq0 c = mask-no_centre _ _ c.if-fg-ge-MASK_END.false c.if-bg-ge-MASK_END.false c.if-fg-eq0.true

pub returns : goal.returns
returns c = mask-apart _ _ c.if-fg-ge-MASK_END.false c.if-bg-ge-MASK_END.false c.if-fg-eq0.false
