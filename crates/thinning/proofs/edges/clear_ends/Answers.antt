-- `thinning::edges::clear_ends` meets its contract.
use Rattle.thinning.proofs.EdgeLaws.{ends-cleared}
use Rattle.thinning.proofs.edges.clear_ends.Goals as goal

pub returns : goal.returns
returns c = ends-cleared c.args.w c.args.row.now _ _ c.requires.0 c.clear_start.ensures c.clear_padding.ensures
