use Prim.Native.Nat.{◌*◌, ◌+◌, ◌-◌}
use native.Mathlib.Omega.{arith}
use Rattle.listing.proofs.AppendLaws.{appended-none, appended_then, room_less, room_next}
use Rattle.listing.proofs.TextLaws.{map_le, map_more, map-none}
use Rattle.listing.proofs.text.put_map.Goals as goal

pub loop-y-init : goal.loop-y-init
loop-y-init c =
    let a = c.args in
    map-none a.w a.labels.now (appended-none a.at a.out.now)

pub put_row-next-requires : goal.put_row-next-requires
put_row-next-requires c =
    let a = c.args in
    let l = c.loop-y in
    room_next _ _ (map_more a.w l.y (l.y * a.w + a.w - l.y * a.w) a.labels.now (omega arith))
    (room_less (map_le a.w (l.y + 1) a.h a.labels.now (omega arith)) c.requires.1) l.invariant

pub loop-y-preserved : goal.loop-y-preserved
loop-y-preserved c =
    let a = c.args in
    let l = c.loop-y in
    appended_then _ _ (map_more a.w l.y (l.y * a.w + a.w - l.y * a.w) a.labels.now (omega arith)) l.invariant c.put_row-next.ensures
