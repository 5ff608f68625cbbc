-- `sections::words::walk_word` meets its contract. The pixels above `top` are walked, `left` and `rest` hold the points and the others below it;
-- `left` falls. A turn goes past the highest point, and past the points right after it where there are some.
use Rattle.sections.specs.Words.{word_kinds}
use Rattle.sections.proofs.WordLaws.{Walking}
use Rattle.sections.proofs.words.walk_word.Given as goal

abbrev pub invariant-loop-left : goal.invariant-loop-left
invariant-loop-left g l = Walking g.P.Pen.down (word_kinds l.m l.ink l.mask) l.initial.out l.out l.fn.pen.at l.fn.pen.run l.j l.k l.top l.left l.rest

abbrev pub decreases-loop-left : goal.decreases-loop-left
decreases-loop-left g l = l.left
