-- `decoding::decode` meets its contract.
use mathlib.Core.List.{[], ◌∷◌}
use mathlib.Core.Path.{◌∙◌, sym}
use Rattle.morphology.specs.Answers.{foreground}
use Rattle.morphology.specs.Element.{offsets}
use Rattle.morphology.specs.Refusals.{first_refusal}
use Rattle.morphology.proofs.RefusalLaws.{unless_in}
use Rattle.reading.specs.Decoding.{decode_rows, decoded, decoding}
use Rattle.reading.specs.Maps.{code_rows, code_set}
use Rattle.refusals.proofs.RowLaws.{call_refused}
use Rattle.decoding.specs.Marks.{mark_of}
use Rattle.decoding.proofs.CodeLaws.{decode_ready, decode-rows}
use Rattle.decoding.proofs.decode.Goals as goal

pub returns-in_err-shape_rows : goal.returns-in_err-shape_rows
unfolding decoded
returns-in_err-shape_rows c =
    let a = c.args in
    call_refused foreground _ _ _ _ _ c.from_residual.ensures.1
    (decode-rows a.w a.h a.element _ _ a.image.now a.work.now c.not_plane-wrong.ensures c.short_planes-short.ensures c.in_err-shape_rows.ensures)

pub new-f-requires : goal.new-f-requires
new-f-requires c =
    let a = c.args in
    (decode_ready a.w a.h a.element a.image.now a.work.now
    (decode-rows a.w a.h a.element _ _ a.image.now a.work.now c.not_plane-wrong.ensures c.short_planes-short.ensures c.in_ok-shape_rows.ensures)).0

pub decode_into-requires : goal.decode_into-requires
decode_into-requires c =
    let a = c.args in
    let d = decode_ready a.w a.h a.element a.image.now a.work.now
    (decode-rows a.w a.h a.element _ _ a.image.now a.work.now c.not_plane-wrong.ensures c.short_planes-short.ensures c.in_ok-shape_rows.ensures) in
    rw (c.new-f.ensures.0, c.new-f.ensures.1) (d.1, d.2, d.3, d.4)

pub returns : goal.returns
unfolding decoded
returns c =
    let a = c.args in
    let B = offsets a.element in
    let n = mark_of a.largest in
    let e = decode-rows a.w a.h a.element _ _ a.image.now a.work.now c.not_plane-wrong.ensures c.short_planes-short.ensures c.in_ok-shape_rows.ensures in
    (rw (c.new-f.ensures.0, c.new-f.ensures.1) at c.decode_into.ensures)
    ∙ sym
    (unless_in (first_refusal (decode_rows a.w a.h a.element a.image.now a.work.now)) (a.image.now ∷ a.work.now ∷ []) (decoding a.w a.h (code_rows a.w a.h B n a.stream.now) (code_set a.w a.h B n a.stream.now) a.image.now a.work.now) (sym e))
