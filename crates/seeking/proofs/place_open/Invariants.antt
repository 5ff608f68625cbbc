-- `seeking::place_open` meets its contract. Before each turn the walk stands after a point, with `top` pixels left, and what follows is at symbol `run.at`;
-- `top` falls.
use Rattle.coding.specs.Symbols.{symbols_of}
use Rattle.seeking.proofs.OpenWordLaws.{OpenWalk}
use Rattle.seeking.proofs.place_open.Given as goal

abbrev pub invariant-loop-follows : goal.invariant-loop-follows
invariant-loop-follows l = OpenWalk (symbols_of l.stream) l.limit l.m l.fn.run.left l.fn.run.at l.points l.top l.run.at

abbrev pub decreases-loop-follows : goal.decreases-loop-follows
decreases-loop-follows l = l.top
