-- `listing::answer::put_counts` meets its contract. The three numbers, one appended after the other.
use mathlib.Core.Path.{refl}
use Rattle.listing.proofs.AppendLaws.{appended_then, room-first, room_next}
use Rattle.listing.specs.Text.{decimal}
use Rattle.listing.proofs.AnswerLaws.{counts_pieces}
use Rattle.listing.proofs.answer.put_counts.Goals as goal

pub put_decimal-first-requires : goal.put_decimal-first-requires
put_decimal-first-requires c =
    let a = c.args in
    room-first _ _ (counts_pieces (decimal a.w) (decimal a.h) (decimal a.points)) c.requires

pub put_word-second-requires : goal.put_word-second-requires
put_word-second-requires c =
    let a = c.args in
    room-first _ _ refl (room_next _ _ (counts_pieces (decimal a.w) (decimal a.h) (decimal a.points)) c.requires c.put_decimal-first.ensures)

pub put_word-requires : goal.put_word-requires
put_word-requires c =
    let a = c.args in
    room_next _ _ refl (room_next _ _ (counts_pieces (decimal a.w) (decimal a.h) (decimal a.points)) c.requires c.put_decimal-first.ensures)
    c.put_word-second.ensures

pub returns : goal.returns
returns c =
    let a = c.args in
    appended_then _ _ (counts_pieces (decimal a.w) (decimal a.h) (decimal a.points)) c.put_decimal-first.ensures
    (appended_then _ _ refl c.put_word-second.ensures c.put_word.ensures)
