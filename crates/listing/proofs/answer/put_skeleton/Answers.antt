-- `listing::answer::put_skeleton` meets its contract. The counts, the largest size and the map, one appended after the other.
use mathlib.Core.Path.{refl}
use Rattle.listing.specs.Text.{decimal}
use Rattle.listing.proofs.AppendLaws.{appended_then, room-first, room_next}
use Rattle.listing.proofs.AnswerLaws.{skeleton_pieces}
use borrow.Author.Rules.{rules}
use Rattle.listing.proofs.answer.put_skeleton.Goals as goal

pub put_counts-counts-requires : goal.put_counts-counts-requires
put_counts-counts-requires c =
    let a = c.args in
    room-first _ _ (skeleton_pieces a.w a.h a.points (decimal a.largest) a.labels.now) c.requires.1

pub put_word-size-requires : goal.put_word-size-requires
put_word-size-requires c =
    let a = c.args in
    room-first _ _ refl (room_next _ _ (skeleton_pieces a.w a.h a.points (decimal a.largest) a.labels.now) c.requires.1 c.put_counts-counts.ensures)

pub put-line-requires : goal.put-line-requires
put-line-requires c =
    let a = c.args in
    room-first _ _ refl
    (room_next _ _ refl (room_next _ _ (skeleton_pieces a.w a.h a.points (decimal a.largest) a.labels.now) c.requires.1 c.put_counts-counts.ensures) c.put_word-size.ensures)

pub put_map-requires : goal.put_map-requires
put_map-requires c =
    let a = c.args in (
      search rules,
      room_next _ _ refl
          (room_next _ _ refl (room_next _ _ (skeleton_pieces a.w a.h a.points (decimal a.largest) a.labels.now) c.requires.1 c.put_counts-counts.ensures) c.put_word-size.ensures)
          c.put-line.ensures,
    )

pub returns : goal.returns
returns c =
    let a = c.args in
    appended_then _ _ (skeleton_pieces a.w a.h a.points (decimal a.largest) a.labels.now) c.put_counts-counts.ensures
    (appended_then _ _ refl c.put_word-size.ensures (appended_then _ _ refl c.put-line.ensures c.put_map.ensures))
