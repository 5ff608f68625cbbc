-- `sections::words::count_free` meets its contract: from the point at height h up to `top` there are ones only but for the point itself, or they are counted.
use mathlib.Core.Path.{◌∙◌, ap, sym}
use Prim.Native.Nat.{◌-◌, ◌<◌}
use native.Mathlib.Omega.{arith}
use lib.Count.{ones}
use Rattle.sections.proofs.WordLaws.{ones-reach}
use Rattle.sections.proofs.words.count_free.Goals as goal

pub returns-then-gap-d : goal.returns-then-gap-d
returns-then-gap-d c =
    let before-lt : let a = c.args in a.top - a.h - 1 < 64 = omega (arith, c.requires.1) in
    let a = c.args in
    sym (ap ones c.if-gap-d.true ∙ ones-reach (a.top - a.h - 1) before-lt)
