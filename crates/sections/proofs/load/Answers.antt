-- `sections::load` meets its contract: eight bytes, the first worth most, are a word.
use Rattle.sections.proofs.PlaneLaws.{word_eight}
use Rattle.sections.proofs.load.Goals as goal

pub returns : goal.returns
returns c = word_eight c.args.s.now c.args.i c.from_be_bytes.result (λ k. (c.type_inv.s k).fits) c.from_be_bytes.ensures
