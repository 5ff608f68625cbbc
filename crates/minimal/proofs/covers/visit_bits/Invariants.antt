-- `minimal::covers::visit_bits` meets its contract. The invariant: the first k pixels are gone through.
use Rattle.morphology.specs.Image.{bit_of}
use Rattle.minimal.specs.Moves.{Done, below}
use Rattle.minimal.proofs.covers.visit_bits.Given as goal

abbrev pub invariant-loop-k : goal.invariant-loop-k
invariant-loop-k g l = Done g.V.Visit.task (below l.k (bit_of l.b)) l.at l.a l.initial.counters l.counters l.all
