-- `coding::digits` meets its contract: one digit below 3, two below 9.
use mathlib.Core.Path.{sym}
use Rattle.coding.proofs.NumeralLaws.{length-small, length_two}
use Rattle.coding.proofs.digits.Goals as goal

pub returns-then-n-lt3 : goal.returns-then-n-lt3
returns-then-n-lt3 c = sym (length-small c.args.n c.if-n-lt3.true)

pub returns-then-n-lt9 : goal.returns-then-n-lt9
returns-then-n-lt9 c = sym (length_two c.args.n c.if-n-lt3.false c.if-n-lt9.true)
