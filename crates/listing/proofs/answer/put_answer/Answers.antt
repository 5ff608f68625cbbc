-- `listing::answer::put_answer` meets its contract. Each answer has its text, and there is room for the one that it is.
use mathlib.Core.Path.{sym}
use Rattle.listing.specs.Printed.{answer_text}
use Rattle.listing.proofs.AnswerLaws.{answer_is, found_is}
use Rattle.listing.proofs.AppendLaws.{appended_as, room_as}
use Rattle.listing.proofs.answer.put_answer.Goals as goal

pub put_refusal-requires : goal.put_refusal-requires
unfolding answer_text
put_refusal-requires c =
    let a = c.args in
    room_as (answer_is a.w a.h a.labels.now c.in-Err.is) c.requires.1

pub put_blank-requires : goal.put_blank-requires
unfolding answer_text
put_blank-requires c =
    let a = c.args in
    (c.requires.0, room_as (found_is a.w a.h a.labels.now c.in-Ok-None.is (rw c.in-Ok-None.is at c.in-Ok-None.field-0-is)) c.requires.1)

pub put_skeleton-requires : goal.put_skeleton-requires
unfolding answer_text
put_skeleton-requires c =
    let a = c.args in
    (c.requires.0, room_as (found_is a.w a.h a.labels.now c.in-Ok-Some.is (rw c.in-Ok-Some.is at c.in-Ok-Some.field-0-is)) c.requires.1)

pub returns-in-Err : goal.returns-in-Err
unfolding answer_text
returns-in-Err c =
    let a = c.args in
    appended_as (sym (answer_is a.w a.h a.labels.now c.in-Err.is)) c.put_refusal.ensures

pub returns-in-Ok-None : goal.returns-in-Ok-None
unfolding answer_text
returns-in-Ok-None c =
    let a = c.args in
    appended_as (sym (found_is a.w a.h a.labels.now c.in-Ok-None.is (rw c.in-Ok-None.is at c.in-Ok-None.field-0-is))) c.put_blank.ensures

pub returns-in-Ok-Some : goal.returns-in-Ok-Some
unfolding answer_text
returns-in-Ok-Some c =
    let a = c.args in
    appended_as (sym (found_is a.w a.h a.labels.now c.in-Ok-Some.is (rw c.in-Ok-Some.is at c.in-Ok-Some.field-0-is))) c.put_skeleton.ensures
