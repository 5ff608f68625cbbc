-- `containment::limit_at` meets its contract.
use lib.Dec.{leb}
use Rattle.containment.specs.Wild.{room_at}
use Rattle.containment.proofs.WildLaws.{limit_of}
use Rattle.containment.proofs.limit_at.Goals as goal

pub returns : goal.returns
returns c =
    let a = c.args in
    limit_of c.limit.result (λ n. leb n c.room.result) (room_at a.side a.lo a.hi a.x) c.room.ensures c.limit.ensures
