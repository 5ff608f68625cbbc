use mathlib.Core.Bool.{true}
use mathlib.Core.List.{◌++◌}
use mathlib.Core.Path.{◌∙◌, ◌≡◌, refl, sym}
use Prim.Native.Nat.{◌*◌, ◌+◌, ◌-◌, ◌≤◌, suc}
use native.Mathlib.Nat.{sub-zero}
use native.Mathlib.Omega.{arith}
use lib.ListN.{drop, length, replicate, take}
use Rattle.std.proofs.Common.{rules}
use Rattle.morphology.specs.Element.{offsets}
use Rattle.decoding.specs.Reads.{KeptFrom}
use Rattle.decoding.proofs.HeldLaws.{SizesHeld, held_all, held-clean, held-empty, held-near, held_next, held_none, held-refused, kept-cleared, kept_on}
use Rattle.decoding.proofs.read_sizes.Goals as goal
use Rattle.decoding.proofs.read_sizes.Goals.{After-fill}

-- two planes of 0
cleared : (c : After-fill) → c.fill.new.self ≡ replicate (length (take (2 * c.args.f.p) c.args.work.now)) 0
cleared c = search rules

held : (c : After-fill)
    → let a = c.args in
    SizesHeld a.f.w a.f.h a.f.p (offsets a.element) a.stream.now a.largest (suc a.largest) 0 true (c.fill.new.self ++ drop (2 * a.f.p) a.work.now)
held c =
    let a = c.args in
    held_none c.args.f.sheet (offsets a.element) a.stream.now a.largest a.work.now c.fill.new.self (omega (arith, c.requires.1)) (cleared c)

kept : (c : After-fill) → KeptFrom 3 c.args.f.p c.args.work.now (c.fill.new.self ++ drop (2 * c.args.f.p) c.args.work.now)
kept c =
    let a = c.args in
    kept-cleared (2 * a.f.p) a.work.now c.fill.new.self (omega arith) (omega (arith, c.requires.1)) (cleared c)

pub read_step-requires : goal.read_step-requires
read_step-requires c =
    let g = (goal.at.read_step-requires c).After-fill in
    let k = kept g in
    let d = held g in (
      record {
        sheet = c.args.f.sheet;
        room = omega (arith, k.size, c.requires.1);
        element = c.requires.2;
        clean = held-clean c.args.f.sheet d;
        again = d.again;
      },
      c.requires.0,
      omega arith,
    )

pub returns-in_err-first : goal.returns-in_err-first
returns-in_err-first c =
    let a = c.args in
    let g = (goal.at.returns-in_err-first c).After-fill in
    let e = c.in_err-first.ensures in
    rw c.from_residual.ensures (kept_on (kept g) e.0, held-refused c.args.f.sheet a.element c.requires.2 (held g) a.largest refl e.1)

pub returns-then-empty : goal.returns-then-empty
returns-then-empty c =
    let g = (goal.at.returns-then-empty c).After-fill in
    let e = c.in_ok-first.ensures in
    let k = kept_on (kept g) e.0 in
    let long : c.args.f.p ≤ length c.read_step.new.work = omega (arith, k.size, c.requires.1) in
    (k, held-empty c.args.f.sheet (held g) c.args.largest refl e.1 refl long (sym c.has_ink-held.ensures ∙ c.if-empty.true))

pub loop-init : goal.loop-init
loop-init c =
    let d = held (goal.at.loop-init c).After-fill in (
      rw sub-zero (held_next c.args.f.sheet d c.args.largest refl c.in_ok-first.ensures.1 (λ e. sym c.has_ink-held.ensures ∙ c.if-empty.false)),
      record { size = refl; rest = refl },
    )

pub read_step-requires-in-loop : goal.read_step-requires-in-loop
read_step-requires-in-loop c =
    let k = kept_on (kept (goal.at.read_step-requires-in-loop c).After-fill) c.in_ok-first.ensures.0 in
    let i = c.loop.invariant in (
      record {
        sheet = c.args.f.sheet;
        room = omega (arith, i.1.size, k.size, c.requires.1);
        element = c.requires.2;
        clean = held-clean c.args.f.sheet i.0;
        again = i.0.again;
      },
      c.requires.0,
      held-near c.args.f.sheet i.0 c.requires.3,
    )

pub returns-in_err-next : goal.returns-in_err-next
returns-in_err-next c =
    let a = c.args in
    let k = kept_on (kept (goal.at.returns-in_err-next c).After-fill) c.in_ok-first.ensures.0 in
    let i = c.loop.invariant in
    let e = c.in_err-next.ensures in
    let left : a.largest - c.loop.counter ≡ suc (a.largest - (c.loop.counter + 1)) = omega arith in
    rw c.from_residual-in_err-next.ensures
    (kept_on (kept_on k i.1) e.0, held-refused c.args.f.sheet a.element c.requires.2 i.0 (a.largest - (c.loop.counter + 1)) left e.1)

pub loop-preserved : goal.loop-preserved
loop-preserved c =
    let a = c.args in
    let i = c.loop.invariant in
    let e = c.in_ok-next.ensures in
    let left : a.largest - c.loop.counter ≡ suc (a.largest - (c.loop.counter + 1)) = omega arith in
    (held_next c.args.f.sheet i.0 (a.largest - (c.loop.counter + 1)) left e.1 (λ q. absurd (omega arith)), kept_on i.1 e.0)

pub returns : goal.returns
returns c =
    let a = c.args in
    let k = kept_on (kept (goal.at.returns c).After-fill) c.in_ok-first.ensures.0 in
    let i = c.loop.invariant in
    let f = held_all c.args.f.sheet a.element c.requires.2 i.0 (omega arith) c.requires.3 in
    (kept_on k i.1, f.0, f.1, f.2, f.3)
