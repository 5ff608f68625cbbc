use native.Mathlib.Omega.{arith}
use mathlib.Core.Path.{◌∙◌, ◌≡◌, ap}
use Prim.Native.Nat.{◌*◌, ◌+◌, ◌-◌, ◌/◌, ◌^◌, ℕ}
use lib.ListN.{length}
use lib.Pow.{shr-shr}
use Rattle.raster.specs.Rows.{read_bit}
use Rattle.neighbours.proofs.StripLaws.{column_done, column_more, column-none}
use Rattle.neighbours.proofs.join_column.Goals as goal

pub loop-k-init : goal.loop-k-init
loop-k-init c =
    let a = c.args in
    (omega arith, column-none a.how.dilating a.column (λ k x. read_bit a.how.inverse a.strip.now (8 * (k * a.r) + x)) a.dst.now)

pub loop-k-preserved : goal.loop-k-preserved
loop-k-preserved c =
    let a = c.args in
    let l = c.loop-k in
    let at = c.reflect.result * a.r in
    let n = length a.dst.now in
    let e : l.k * 5 + 5 ≡ (l.k + 1) * 5 = omega arith in (
      ap (λ (n : ℕ). n / 32) l.invariant.0 ∙ shr-shr a.column (l.k * 5) 5 ∙ ap (λ (n : ℕ). a.column / 2 ^ n) e,
      column_more a.how.dilating a.how.inverse a.column l.rest l.k a.r at (at + n - at) a.strip.now a.dst.now l.dst _ l.invariant.0
          (ap (λ (k : ℕ). k * a.r) c.reflect.ensures) (omega arith) l.invariant.1 c.join_if.ensures,
    )

pub returns : goal.returns
returns c =
    let a = c.args in
    let l = c.loop-k in
    column_done a.how.dilating a.column l.k (λ k x. read_bit a.how.inverse a.strip.now (8 * (k * a.r) + x)) a.dst.now l.dst (omega arith) l.invariant.1
