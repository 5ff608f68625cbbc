use mathlib.Core.Path.{subst, sym}
use Prim.Native.Nat.{◌+◌, ◌-◌, ◌<◌, ℕ}
use native.Mathlib.Omega.{arith}
use Rattle.std.specs.Prelude.{Some}
use Rattle.coding.specs.Symbols.{symbols_of}
use Rattle.sections.proofs.WordLaws.{power_is}
use Rattle.seeking.proofs.OpenWordLaws.{OpenWalk, open-first, open-over, open-run, open-short, open-skipped, open-small}
use Rattle.seeking.proofs.place_open.Goals as goal
use Rattle.seeking.proofs.place_open.Goals.{After-short_runs-short}

-- the walk over the short runs of a turn
walked : (c : After-short_runs-short)
    → let r = c.short_runs-short.result in
    OpenWalk (symbols_of c.args.stream.now) c.args.limit c.args.m c.args.run.left c.args.run.at (c.loop-follows.points + r.points) r.top r.at
walked c =
    let r = c.short_runs-short.result in
    let e = c.short_runs-short.ensures in
    let w = c.loop-follows.invariant in
    open-short w r.points r.top r.at (e.0 c.args.limit (omega (arith, c.requires.2, w.less))) e.1 e.2

pub loop-follows-init : goal.loop-follows-init
loop-follows-init c =
    let a = c.args in
    let h = a.m - a.run.left - 1 in
    subst (λ (x : ℕ). OpenWalk (symbols_of a.stream.now) a.limit a.m a.run.left a.run.at x h a.run.at) (sym (power_is h (omega arith)))
    (open-first (symbols_of a.stream.now) a.limit a.m a.run.left a.run.at c.requires.0)

pub short_runs-short-requires : goal.short_runs-short-requires
short_runs-short-requires c = (omega arith, omega (arith, c.loop-follows.invariant.near))

pub overflow_add-points : goal.overflow_add-points
overflow_add-points c = omega (arith, open-small (walked (goal.at.overflow_add-points c).After-short_runs-short) c.requires.1)

pub next_run-next-requires : goal.next_run-next-requires
next_run-next-requires c =
    let w = walked (goal.at.next_run-next-requires c).After-short_runs-short in
    (omega (arith, w.near), c.requires.3)

pub returns-in_default : goal.returns-in_default
returns-in_default c =
    let n = c.next_run-next in
    open-over (walked (goal.at.returns-in_default c).After-short_runs-short) n.result (rw c.in_default.is tt) n.ensures

pub returns-in_default-follows : goal.returns-in_default-follows
returns-in_default-follows c =
    let n = c.in-Some in
    open-over (walked (goal.at.returns-in_default-follows c).After-short_runs-short) (Some n.follows) (rw c.in_default-follows.is tt) n.ensures

pub returns-then-after-short : goal.returns-then-after-short
returns-then-after-short c =
    let r = c.in-Run in
    let w = walked (goal.at.returns-then-after-short c).After-short_runs-short in
    open-skipped w r.after.left r.after.at (rw r.is at c.in-Some.ensures) c.if-after-short.true

pub overflow_shl-points-in-loop-follows : goal.overflow_shl-points-in-loop-follows
overflow_shl-points-in-loop-follows c = omega (arith, (walked (goal.at.overflow_shl-points-in-loop-follows c).After-short_runs-short).less, c.requires.1)

pub overflow_add-points-in-loop-follows : goal.overflow_add-points-in-loop-follows
overflow_add-points-in-loop-follows c =
    let r = c.in-Run in
    let w = walked (goal.at.overflow_add-points-in-loop-follows c).After-short_runs-short in
    omega (arith, open-small (open-run w r.after.left r.after.at (rw r.is at c.in-Some.ensures) c.if-after-short.false) c.requires.1)

pub loop-follows-smaller : goal.loop-follows-smaller
loop-follows-smaller c = omega (arith, c.if-after-short.false, c.short_runs-short.ensures.2)

pub loop-follows-preserved : goal.loop-follows-preserved
loop-follows-preserved c =
    let a = c.args in
    let r = c.in-Run in
    let w = walked (goal.at.loop-follows-preserved c).After-short_runs-short in
    let v = c.loop-follows.points + c.short_runs-short.result.points in
    let h = c.short_runs-short.result.top - r.after.left - 1 in
    let low : h < 64 = omega (arith, w.less, c.requires.1) in
    subst (λ (x : ℕ). OpenWalk (symbols_of a.stream.now) a.limit a.m a.run.left a.run.at (v + x) h r.after.at) (sym (power_is h low))
    (open-run w r.after.left r.after.at (rw r.is at c.in-Some.ensures) c.if-after-short.false)
