-- `listing::answer::put_refusal` meets its contract. The word, the number and the line's end, one appended after the other.
use mathlib.Core.Path.{◌∙◌, ap, refl, sym}
use Rattle.listing.specs.Printed.{refusal_text}
use Rattle.listing.proofs.AppendLaws.{appended_then, room-first, room_next}
use Rattle.listing.proofs.AnswerLaws.{refusal_pieces}
use Rattle.listing.proofs.answer.put_refusal.Goals as goal

pub put_bytes-word-requires : goal.put_bytes-word-requires
put_bytes-word-requires c = room-first _ _ (ap refusal_text (sym c.from-n.ensures) ∙ refusal_pieces c.from-n.result) c.requires

pub put_word-number-requires : goal.put_word-number-requires
put_word-number-requires c =
    let e = ap refusal_text (sym c.from-n.ensures) ∙ refusal_pieces c.from-n.result in
    room-first _ _ refl (room_next _ _ e c.requires c.put_bytes-word.ensures)

pub put-requires : goal.put-requires
put-requires c =
    let e = ap refusal_text (sym c.from-n.ensures) ∙ refusal_pieces c.from-n.result in
    room_next _ _ refl (room_next _ _ e c.requires c.put_bytes-word.ensures) c.put_word-number.ensures

pub returns : goal.returns
returns c =
    let e = ap refusal_text (sym c.from-n.ensures) ∙ refusal_pieces c.from-n.result in
    appended_then _ _ e c.put_bytes-word.ensures (appended_then _ _ refl c.put_word-number.ensures c.put.ensures)
