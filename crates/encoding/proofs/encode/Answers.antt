-- `encoding::encode` meets its contract.
use mathlib.Core.List.{[], ◌∷◌}
use mathlib.Core.Path.{◌∙◌, sym}
use Rattle.coding.specs.Codes.{code_of}
use Rattle.coding.specs.Coding.{coding, encode_rows, encoded}
use Rattle.morphology.specs.Element.{offsets}
use Rattle.morphology.specs.Image.{image_set}
use Rattle.morphology.specs.Refusals.{first_refusal}
use Rattle.morphology.proofs.RefusalLaws.{unless_in}
use Rattle.refusals.proofs.RowLaws.{call_refused}
use Rattle.encoding.specs.Encoded.{written}
use Rattle.encoding.proofs.OutcomeLaws.{encode_ready}
use Rattle.encoding.proofs.encode.Goals as goal

pub returns-in_err-image_refusal : goal.returns-in_err-image_refusal
unfolding encoded
returns-in_err-image_refusal c = call_refused written _ _ _ _ _ c.from_residual.ensures.1 c.in_err-image_refusal.ensures

pub new-f-requires : goal.new-f-requires
new-f-requires c =
    let a = c.args in
    (encode_ready a.w a.h a.element a.image.now a.work.now c.in_ok-image_refusal.ensures).0.frame

pub encode_into-requires : goal.encode_into-requires
encode_into-requires c =
    let a = c.args in
    let d = encode_ready a.w a.h a.element a.image.now a.work.now c.in_ok-image_refusal.ensures in
    (rw (c.new-f.ensures.0, c.new-f.ensures.1) d.0, d.1)

pub returns : goal.returns
unfolding encoded
returns c =
    let a = c.args in
    let X = image_set a.w a.h a.image.now in
    (rw (c.new-f.ensures.0, c.new-f.ensures.1) at c.encode_into.ensures)
    ∙ sym
    (unless_in (first_refusal (encode_rows a.w a.h a.element a.image.now a.work.now)) (a.out.now ∷ a.work.now ∷ []) (coding a.w a.h (code_of a.w a.h (offsets a.element) X) a.out.now a.work.now) (sym c.in_ok-image_refusal.ensures))
