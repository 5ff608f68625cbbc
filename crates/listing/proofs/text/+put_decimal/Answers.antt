use mathlib.Core.Path.{sym}
use native.Mathlib.Omega.{arith}
use Rattle.listing.proofs.AppendLaws.{appended_as, appended_then, room_as, room-first, room_next}
use Rattle.listing.proofs.TextLaws.{decimal_large, decimal-small}
use Rattle.listing.proofs.text.+put_decimal.Goals as goal

pub put-requires : goal.put-requires
put-requires t c = room_as (decimal-small c.args.n (omega (arith, c.if-short.true))) c.requires

pub returns-then-short : goal.returns-then-short
returns-then-short t c = appended_as (sym (decimal-small c.args.n (omega (arith, c.if-short.true)))) c.put.ensures

pub put_decimal-last-requires : goal.put_decimal-last-requires
put_decimal-last-requires t c = (omega arith, room-first _ _ (decimal_large c.args.n (omega (arith, c.if-short.false))) c.requires)

pub put-requires-2 : goal.put-requires-2
put-requires-2 t c = room_next _ _ (decimal_large c.args.n (omega (arith, c.if-short.false))) c.requires c.put_decimal-last.ensures

pub returns : goal.returns
returns t c = appended_then _ _ (decimal_large c.args.n (omega (arith, c.if-short.false))) c.put_decimal-last.ensures c.put-2.ensures
