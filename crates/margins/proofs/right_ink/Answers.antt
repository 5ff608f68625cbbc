-- `margins::right_ink` meets its contract: the last columns are the ends of the last bytes, or those bytes and the last pixel of the ones before.
use mathlib.Core.Bool.{not}
use mathlib.Core.Path.{◌∙◌, ap}
use Prim.Native.Nat.{◌%◌, ◌*◌, ◌+◌, ◌-◌, ◌<◌, ℕ}
use native.Mathlib.Omega.{arith}
use lib.Dec.{eqb}
use Rattle.margins.proofs.ColumnLaws.{end-ink, end_two, none-ink, shifted_one}
use Rattle.margins.proofs.right_ink.Goals as goal

pub returns-then-right-eq0 : goal.returns-then-right-eq0
returns-then-right-eq0 c =
    let a = c.args in
    none-ink a.s.now a.f.r a.f.h (a.f.w - a.right) a.f.w (omega (arith, c.if-right-eq0.true))

pub returns-then-tail-gt8 : goal.returns-then-tail-gt8
returns-then-tail-gt8 c =
    let a = c.args in
    end_two c.args.f.sheet.frame a.s.now c.requires.1 _ a.right (omega arith) (omega (arith, c.requires.3)) c.seen-last.ensures c.requires.2 c.requires.3
    c.if-tail-gt8.true _ (omega arith) c.seen.ensures

pub returns : goal.returns
returns c =
    let near : let a = c.args in 8 * a.f.r - a.f.w + a.right < 9 = omega (arith, c.if-tail-gt8.false) in
    let a = c.args in
    rw c.from.ensures (ap (λ (n : ℕ). not (eqb (c.seen-last.result % n) 0)) (shifted_one (8 * a.f.r - a.f.w + a.right) near)
    ∙ end-ink c.args.f.sheet.frame a.s.now c.requires.1 _ a.right (omega arith) (omega (arith, c.requires.3)) c.seen-last.ensures near)
