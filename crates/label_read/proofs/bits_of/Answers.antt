use mathlib.Core.Bool.{false}
use mathlib.Core.Path.{◌∙◌, ap, refl, sym}
use Prim.Native.Nat.{◌*◌, ◌+◌, ℕ}
use native.Mathlib.Omega.{arith}
use lib.Dec.{eqb}
use lib.ListN.{get_or}
use Rattle.morphology.specs.Image.{from_bits}
use Rattle.label_read.specs.Points.{is_label}
use Rattle.label_read.proofs.PointLaws.{bits_more, bits_fit, in-label}
use Rattle.label_read.proofs.bits_of.Goals as goal

pub loop-b-init : goal.loop-b-init
unfolding from_bits
loop-b-init c = refl

pub overflow_mul-bits : goal.overflow_mul-bits
overflow_mul-bits c =
    let l = c.loop-b in
    let a = c.args in
    omega (arith, bits_fit (is_label a.part.now a.v) false l.b-index l.bits (omega (arith, c.requires)) l.invariant)

pub overflow_add-bits : goal.overflow_add-bits
overflow_add-bits c =
    let l = c.loop-b in
    let a = c.args in
    omega
    (arith, bits_fit (is_label a.part.now a.v) (eqb (get_or a.part.now l.b-index 0) a.v) l.b-index l.bits (omega (arith, c.requires)) l.invariant, c.from.ensures)

pub loop-b-preserved : goal.loop-b-preserved
loop-b-preserved c =
    let l = c.loop-b in
    let a = c.args in
    ap (λ (n : ℕ). l.bits * 2 + n) c.from.ensures
    ∙ bits_more (is_label a.part.now a.v) (eqb (get_or a.part.now l.b-index 0) a.v) l.b-index l.bits (sym (in-label a.part.now a.v l.b-index (omega arith))) l.invariant
