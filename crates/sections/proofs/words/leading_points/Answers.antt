-- `sections::words::leading_points` meets its contract: the pixels that are no points are as long as what is left below the highest points,
-- and where these pixels are not less than the points, none is.
use mathlib.Core.Path.{subst, sym}
use Prim.Native.Nat.{◌+◌, ◌-◌, ◌≤◌, ℕ}
use lib.Count.{count_leading_zeros}
use Rattle.sections.proofs.WordLaws.{Leading, leading_in, leading-points, power_is}
use Rattle.sections.proofs.words.leading_points.Goals as goal

pub overflow_sub-result : goal.overflow_sub-result
overflow_sub-result c =
    let a = c.args in
    subst (λ (p : ℕ). 64 ≤ count_leading_zeros 64 (p - 1 - a.left) + a.h) (sym (power_is a.h c.requires.0))
    (leading_in a.h a.left c.requires.0 c.requires.1)

pub returns : goal.returns
returns c =
    let a = c.args in
    subst (λ (p : ℕ). Leading p a.left a.h) (sym (power_is a.h c.requires.0)) (leading-points a.h a.left c.requires.0 c.requires.1)
