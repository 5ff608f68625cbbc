-- `calls_c::call` meets its contract: what `calls::call` does with the same buffers, in their order.
use Rattle.calls_c.proofs.call.Goals as goal

pub returns : goal.returns
returns c = record { outcome = c.call.ensures.outcome; zeros = c.call.ensures.zeros }
