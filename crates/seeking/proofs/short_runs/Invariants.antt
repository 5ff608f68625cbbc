-- `seeking::short_runs` meets its contract. Before each turn the runs from symbol `at` to j are walked, and the window shows the symbols from j on, up
-- to 29 after `at`; j grows.
use Prim.Native.Nat.{◌+◌, ◌-◌}
use Rattle.coding.specs.Symbols.{symbols_of}
use Rattle.seeking.proofs.WindowLaws.{ShortWalk}
use Rattle.seeking.proofs.short_runs.Given as goal

abbrev pub invariant-loop-j : goal.invariant-loop-j
invariant-loop-j l = ShortWalk (symbols_of l.stream) l.at l.top l.points l.rest l.j l.window

abbrev pub decreases-loop-j : goal.decreases-loop-j
decreases-loop-j l = l.at + 27 - l.j
