use native.Mathlib.Omega.{arith}
use mathlib.Core.Path.{◌∙◌, ap}
use Prim.Native.Nat.{◌/◌, ℕ}
use lib.Pow.{shr-shr}
use Rattle.neighbours.specs.Neighbours.{strip_bit}
use Rattle.neighbours.proofs.StripLaws.{column_asks, strip_done, strip_more, strip-none}
use Rattle.neighbours.proofs.join_strip.Goals as goal

pub loop-j-init : goal.loop-j-init
loop-j-init c =
    let a = c.args in
    (omega arith, strip-none a.how.dilating a.r a.n a.dst.now (column_asks a.how.dilating a.element (strip_bit a.how.inverse a.buf.now a.r)))

pub loop-j-preserved : goal.loop-j-preserved
loop-j-preserved c =
    let a = c.args in
    let l = c.loop-j in (
      ap (λ (n : ℕ). n / 2) l.invariant.0 ∙ shr-shr a.element l.j 1,
      strip_more a.how.dilating a.r a.n a.element l.rest l.j (strip_bit a.how.inverse a.buf.now a.r) a.dst.now l.dst _ l.invariant.0 l.invariant.1
          c.join_moved.ensures,
    )

pub returns : goal.returns
returns c =
    let a = c.args in
    let l = c.loop-j in
    strip_done a.how.dilating a.r a.n a.element l.j (strip_bit a.how.inverse a.buf.now a.r) a.dst.now l.dst (omega arith) l.invariant.1
