use mathlib.Core.Path.{◌∙◌, sym}
use Prim.Native.Nat.{◌-◌}
use native.Mathlib.Omega.{arith}
use Rattle.coding.specs.Symbols.{symbols_of}
use Rattle.reading.proofs.TakeLaws.{digit_read, taken_early, taken-first, taken_lead, taken_long, taken_more, taken-run}
use Rattle.reading.proofs.take_run.Goals as goal

pub loop-j-init : goal.loop-j-init
loop-j-init c =
    let a = c.args in
    let q = c.requires in
    rw c.into_iter-j-iterator.ensures.into_iter_gives
    (taken-first (symbols_of a.stream.now) a.at a.limit (a.first - 1) q.0 (digit_read a.first _ q.4 (λ z. omega (arith, q.3))))

pub returns-then-v-limit : goal.returns-then-v-limit
returns-then-v-limit c =
    let a = c.args in
    let l = c.loop-j in
    (taken_long (symbols_of a.stream.now) a.at a.limit l.v _ l.invariant (omega arith), tt)

pub returns-in_err-s : goal.returns-in_err-s
returns-in_err-s c =
    let a = c.args in
    let l = c.loop-j in
    rw c.from_residual.ensures
    (taken_early (symbols_of a.stream.now) a.at a.limit l.v _ l.invariant (omega (arith, c.in_err-s.ensures, c.in-Some.ensures.steps.0)), tt)

pub returns-then-s-eq0 : goal.returns-then-s-eq0
returns-then-s-eq0 c =
    let a = c.args in
    let l = c.loop-j in
    let f = c.in_ok-s.ensures in
    let t = rw (← c.in-Some.ensures.steps.0) at l.invariant in
    (taken-run (symbols_of a.stream.now) a.at a.limit l.v c.in-Some.j t f.0 (sym f.1 ∙ c.if-s-eq0.true) c.if-v-limit.false, omega (arith, t.near))

pub returns-then-lead : goal.returns-then-lead
returns-then-lead c =
    let a = c.args in
    let l = c.loop-j in
    let n = c.in_ok-s.s in
    let f = c.in_ok-s.ensures in
    let t = rw (← c.in-Some.ensures.steps.0) at l.invariant in
    let e = digit_read n _ f.1 c.if-s-eq0.false in
    (taken_lead (symbols_of a.stream.now) a.at a.limit l.v c.in-Some.j t f.0 (n - 1) e (omega (arith, c.if-lead.true, c.if-v-limit.false)), tt)

pub loop-j-preserved : goal.loop-j-preserved
loop-j-preserved c =
    let a = c.args in
    let l = c.loop-j in
    let n = c.in_ok-s.s in
    let f = c.in_ok-s.ensures in
    let t = rw (← c.in-Some.ensures.steps.0) at l.invariant in
    let e = digit_read n _ f.1 c.if-s-eq0.false in
    rw c.in-Some.ensures.steps.1
    (taken_more (symbols_of a.stream.now) a.at a.limit l.v c.in-Some.j t f.0 (n - 1) e (omega (arith, c.if-lead.false)))

pub returns : goal.returns
returns c = absurd (omega (arith, c.in-None.ensures.steps.0, c.loop-j.invariant.near, c.loop-j.auto.v-fits, c.requires.1))
