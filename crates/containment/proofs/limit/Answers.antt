-- `containment::limit` meets its contract.
use native.Mathlib.Omega.{arith}
use Rattle.containment.proofs.WildLaws.{limit_is}
use Rattle.containment.proofs.limit.Goals as goal

pub returns : goal.returns
returns c = limit_is c.args.room _ (λ n h l. omega arith) (λ n h l. omega arith)
