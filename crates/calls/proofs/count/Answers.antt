-- `calls::count` meets its contract.
use borrow.Author.Tests.{le-ltb, lt-ltb}
use Rattle.calls.proofs.count.Goals as goal

pub returns-then-s-ge-TOO_LONG : goal.returns-then-s-ge-TOO_LONG
returns-then-s-ge-TOO_LONG c = simp (le-ltb _ _ c.if-s-ge-TOO_LONG.true)

pub returns : goal.returns
returns c = simp (lt-ltb _ _ c.if-s-ge-TOO_LONG.false) c.count_ones.ensures
