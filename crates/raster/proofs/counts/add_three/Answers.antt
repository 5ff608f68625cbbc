-- `raster::counts::add_three` meets its contract: at each place the three digits have the sum of the two.
use borrow.Author.Rules.{rules}
use Rattle.raster.proofs.CountLaws.{added}
use Rattle.raster.proofs.counts.add_three.Goals as goal

pub returns : goal.returns
returns c = added 64 c.args.a c.args.b c.args.c (search rules) (search rules) (search rules)
