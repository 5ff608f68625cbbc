-- `listing::answer::put_blank` meets its contract. The counts, the mark of no size and the map, one appended after the other.
use mathlib.Core.Path.{refl}
use Rattle.listing.specs.Printed.{no_size}
use Rattle.listing.proofs.AppendLaws.{appended_then, room-first, room_next}
use Rattle.listing.proofs.AnswerLaws.{skeleton_pieces}
use Rattle.listing.proofs.answer.put_blank.Goals as goal

pub put_counts-counts-requires : goal.put_counts-counts-requires
put_counts-counts-requires c =
    let a = c.args in
    room-first _ _ (skeleton_pieces a.w a.h 0 no_size a.labels.now) c.requires.1

pub put_bytes-none-requires : goal.put_bytes-none-requires
put_bytes-none-requires c =
    let a = c.args in
    room-first _ _ refl (room_next _ _ (skeleton_pieces a.w a.h 0 no_size a.labels.now) c.requires.1 c.put_counts-counts.ensures)

pub put_map-requires : goal.put_map-requires
put_map-requires c =
    let a = c.args in (
      c.requires.0,
      room_next _ _ refl (room_next _ _ (skeleton_pieces a.w a.h 0 no_size a.labels.now) c.requires.1 c.put_counts-counts.ensures)
          c.put_bytes-none.ensures,
    )

pub returns : goal.returns
returns c =
    let a = c.args in
    appended_then _ _ (skeleton_pieces a.w a.h 0 no_size a.labels.now) c.put_counts-counts.ensures
    (appended_then _ _ refl c.put_bytes-none.ensures c.put_map.ensures)
