-- `minimal::sizes::reach_size` meets its contract.
-- The answer of the dilation says that nothing fell off: the next size stays on the frame. So what it leaves is not clipped.
use Rattle.std.proofs.Common.{◌≢◌, ◌∙◌, arith}
use Rattle.minimal.proofs.SizeLaws.{reach-falls, reach_shape}
use Rattle.minimal.proofs.sizes.reach_size.Goals as goal

pub returns-clause-shape : goal.returns-clause-shape
returns-clause-shape c =
    let n = c.args.n in
    let h : n ≢ 0 = omega (arith, c.if-first.false) in
    reach_shape n h c.requires.2 c.requires.3 c.args.f.sheet c.dilate_step.ensures.plane

pub returns-clause-clipped : goal.returns-clause-clipped
returns-clause-clipped c =
    let h : c.args.n ≢ 0 = omega (arith, c.if-first.false) in
    c.dilate_step.ensures.clipped ∙ reach-falls c.args.n h c.requires.2 c.requires.3
