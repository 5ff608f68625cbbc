-- `sections::walk_whole` meets its contract: eight bytes are a word, and the words are the rows; what the pen knows at once is not walked.
use mathlib.Core.Path.{◌∙◌, ap, sym}
use Prim.Native.Nat.{◌-◌, ◌^◌, ℕ}
use native.Mathlib.Nat.{le_refl}
use native.Mathlib.Omega.{arith}
use lib.Bits.{bit_xor, xor_lt}
use lib.Count.{ones-le}
use lib.Pow.{ones_lt}
use Rattle.sections.specs.Words.{word_kinds}
use Rattle.sections.proofs.PlaneLaws.{room_as, walked_as, word_kinds_lem}
use Rattle.sections.proofs.WordLaws.{same_word}
use Rattle.sections.proofs.walk_whole.Goals as goal

pub overflow_add-result : goal.overflow_add-result
overflow_add-result g c =
    let v = c.load-mask.result in
    omega (arith, ones-le 64 (bit_xor (2 ^ 64 - 1) v) (xor_lt 64 (2 ^ 64 - 1) v (ones_lt 64) c.load-mask.ensures.small), c.requires.2)

pub returns-then-ink-mask : goal.returns-then-ink-mask
returns-then-ink-mask g c =
    let a = c.args in
    let i = c.load-ink in
    let v = c.load-mask in
    let pixels = word_kinds_lem a.s.now a.a a.b 64 i.result v.result i.ensures v.ensures in
    walked_as (ap (λ (x : ℕ). word_kinds 64 x v.result) (sym c.if-ink-mask.true) ∙ pixels) (same_word g.P.Pen.down v.result a.out.now a.pen.at a.pen.run v.ensures.small)

pub at_once-requires : goal.at_once-requires
at_once-requires g c =
    let a = c.args in
    let i = c.load-ink in
    let v = c.load-mask in
    let pixels = word_kinds_lem a.s.now a.a a.b 64 i.result v.result i.ensures v.ensures in
    (c.requires.2, (room_as a.pen.run (sym pixels) c.requires.3).small)

pub returns-in-Some : goal.returns-in-Some
returns-in-Some g c =
    let a = c.args in
    let i = c.load-ink in
    let v = c.load-mask in
    walked_as (word_kinds_lem a.s.now a.a a.b 64 i.result v.result i.ensures v.ensures) (c.in-Some.ensures a.out.now)

pub walk_word-requires : goal.walk_word-requires
walk_word-requires g c =
    let a = c.args in
    let i = c.load-ink in
    let v = c.load-mask in
    let pixels = word_kinds_lem a.s.now a.a a.b 64 i.result v.result i.ensures v.ensures in
    (omega arith, le_refl 64, i.ensures.small, v.ensures.small, c.requires.2, room_as a.pen.run (sym pixels) c.requires.3)

pub returns : goal.returns
returns g c =
    let a = c.args in
    let i = c.load-ink in
    let v = c.load-mask in
    walked_as (word_kinds_lem a.s.now a.a a.b 64 i.result v.result i.ensures v.ensures) c.walk_word.ensures
