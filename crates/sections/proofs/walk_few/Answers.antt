-- `sections::walk_few` meets its contract: the bytes less their padding are two words, and the words are the rows.
use mathlib.Core.Path.{sym}
use Prim.Native.Nat.{◌*◌, ◌+◌, ◌/◌}
use native.Mathlib.Omega.{arith}
use Rattle.sections.proofs.PlaneLaws.{room_as, walked_as, word_few}
use Rattle.sections.proofs.walk_few.Goals as goal

pub walk_word-requires : goal.walk_word-requires
walk_word-requires g c =
    let a = c.args in
    let i = c.load_few in
    let j = c.load_few-2 in
    let t = word_few a.s.now a.a a.b (8 * ((a.m + 7) / 8)) a.m i.result j.result (omega arith) i.ensures j.ensures in
    (c.requires.0, c.requires.1, t.0, t.1, c.requires.4, room_as a.pen.run (sym t.2) c.requires.5)

pub returns : goal.returns
returns g c =
    let a = c.args in
    let i = c.load_few in
    let j = c.load_few-2 in
    walked_as (word_few a.s.now a.a a.b (8 * ((a.m + 7) / 8)) a.m i.result j.result (omega arith) i.ensures j.ensures).2 c.walk_word.ensures
