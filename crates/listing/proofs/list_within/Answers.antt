-- `listing::list_within` meets its contract.
use mathlib.Core.Path.{sym}
use Prim.Native.Nat.{◌*◌}
use native.Mathlib.Omega.{arith}
use Rattle.listing.proofs.AppendLaws.{appended_as, room_as}
use Rattle.listing.proofs.PrintedLaws.{taken_is, zeros-length}
use Rattle.listing.proofs.list_within.Goals as goal

pub put_answer-requires : goal.put_answer-requires
put_answer-requires c =
    let a = c.args in (
      omega (arith, zeros-length (a.w * a.h) a.labels.now c.requires.0),
      room_as (taken_is a.w a.h a.element a.image.now a.labels.now a.work.now _ _ _ c.requires.0 c.requires.1 c.decompose-answer.ensures) c.requires.2,
    )

pub returns : goal.returns
returns c =
    let a = c.args in
    appended_as (sym (taken_is a.w a.h a.element a.image.now a.labels.now a.work.now _ _ _ c.requires.0 c.requires.1 c.decompose-answer.ensures))
    c.put_answer.ensures
