-- `encoding::answer`: the largest size is one below the number of sizes.
use Rattle.encoding.proofs.OutcomeLaws.{sizes-some}
use Rattle.encoding.proofs.answer.Goals as goal

pub returns : goal.returns
returns c = sizes-some c.args.sizes c.args.bytes c.if-sizes-eq0.false
