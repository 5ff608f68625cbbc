use Prim.Native.Nat.{◌+◌}
use native.Mathlib.Omega.{arith}
use Rattle.listing.proofs.AppendLaws.{appended-none, appended_then, room_less, room_next}
use Rattle.listing.proofs.TextLaws.{line-end, line_le, line_more, spaced-none, words}
use Rattle.listing.proofs.text.put_row.Goals as goal

pub loop-i-init : goal.loop-i-init
loop-i-init c =
    let a = c.args in
    spaced-none (words a.row.now) (appended-none a.at a.out.now)

pub put_word-next-requires : goal.put_word-next-requires
put_word-next-requires c =
    let l = c.loop-i in
    let row = c.args.row.now in
    room_next _ _ (line_more row l.i (omega arith)) (room_less (line_le row (l.i + 1)) c.requires) l.invariant

pub loop-i-preserved : goal.loop-i-preserved
loop-i-preserved c =
    let l = c.loop-i in
    appended_then _ _ (line_more c.args.row.now l.i (omega arith)) l.invariant c.put_word-next.ensures

pub put-requires : goal.put-requires
put-requires c =
    let l = c.loop-i in
    room_next _ _ (line-end c.args.row.now l.i (omega arith)) c.requires l.invariant

pub returns : goal.returns
returns c =
    let l = c.loop-i in
    appended_then _ _ (line-end c.args.row.now l.i (omega arith)) l.invariant c.put.ensures
