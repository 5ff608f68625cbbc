use Rattle.raster.proofs.BufferLaws.{ink_more}
use Rattle.raster.proofs.has_ink.Goals as goal

pub loop-b-preserved : goal.loop-b-preserved
loop-b-preserved c = ink_more c.loop-b.seen c.args.s.now c.loop-b.b-index c.loop-b-test.true c.loop-b.invariant
