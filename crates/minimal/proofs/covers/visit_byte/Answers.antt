-- `minimal::covers::visit_byte` meets its contract. A blank byte has no pixel; a full one and any other are gone through pixel by pixel.
use Rattle.morphology.specs.Image.{bit_of}
use Rattle.raster.proofs.ByteLaws.{zero_bit}
use Rattle.minimal.specs.Moves.{below}
use Rattle.minimal.proofs.MoveLaws.{none_below, none-done}
use Rattle.minimal.proofs.covers.visit_byte.Goals as goal

pub returns-in-0 : goal.returns-in-0
returns-in-0 g c =
    let a = c.args in
    none-done g.V.Visit.task (below 8 (bit_of a.b)) a.at a.a a.counters.now (none_below 8 (bit_of a.b) (λ k h. zero_bit a.b k c.in-0.is))
