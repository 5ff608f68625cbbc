-- `calls_c::count` meets its contract: what `calls::count` answers.
use Rattle.calls_c.proofs.count.Goals as goal

pub returns : goal.returns
returns c = c.count.ensures
