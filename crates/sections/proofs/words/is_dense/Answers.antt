-- `sections::words::is_dense` meets its contract: no gap has the two pixels after it as gaps.
use Rattle.sections.proofs.DenseLaws.{dense_test}
use Rattle.sections.proofs.words.is_dense.Goals as goal

pub returns : goal.returns
returns c = dense_test c.args.ink
