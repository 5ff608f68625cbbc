-- `calls::format::answer` meets its contract: by whether c has two bytes for each counter, nothing is done, or the calls in turn make the reply.
use mathlib.Core.Path.{◌∙◌, ap}
use Rattle.calls.specs.Format.{reply_bytes}
use Rattle.calls.proofs.FormatLaws.{replied_made, replied_wrong}
use Rattle.calls.proofs.format.answer.Goals as goal

pub returns-then-c-counters : goal.returns-then-c-counters
returns-then-c-counters c =
    let a = c.args in
    replied_wrong a.header.now a.x.now a.y.now a.z.now a.c.now a.counters.now _ c.if-c-counters.true
    (c.reply_bytes.ensures ∙ ap reply_bytes c.refused.ensures)

pub shape_of-counters : goal.shape_of-counters
shape_of-counters c = c.counters-2-1.given ∙ c.counters-1.given

pub returns : goal.returns
returns c =
    let a = c.args in
    replied_made a.header.now a.x.now a.y.now a.z.now a.c.now a.counters.now _ _ _ _ _ _ _ _ _ _ _ c.if-c-counters.false c.number-w.ensures
    c.number-h.ensures c.number-a.ensures c.number-b.ensures c.read_counters.ensures (c.call-reply.ensures.outcome, c.call-reply.ensures.zeros)
    c.reply_bytes-2.ensures c.write_counters.ensures
