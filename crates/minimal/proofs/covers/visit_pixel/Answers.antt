-- `minimal::covers::visit_pixel` meets its contract.
use Rattle.minimal.proofs.MoveLaws.{pixel-done}
use Rattle.minimal.proofs.covers.visit_pixel.Goals as goal

pub returns-then-ink : goal.returns-then-ink
returns-then-ink g c =
    let a = c.args in
    let t = c.if-ink.true in
    pixel-done g.V.Visit.task a.ink a.at a.a _ a.counters.now _ t (c.requires t) c.visit.ensures
