use mathlib.Core.Path.{◌≡◌, subst, sym}
use Prim.Native.Nat.{◌%◌, ◌*◌, ◌+◌, ◌-◌, ◌<◌, ◌^◌, ◌≤◌, ℕ}
use native.Mathlib.Omega.{arith}
use mathlib.Core.List.{List}
use Rattle.coding.specs.Symbols.{symbols_of}
use Rattle.sections.proofs.WordLaws.{power_is}
use Rattle.seeking.proofs.WindowLaws.{ShortRun, ShortWalk, short_none, short_on, short-room, shown_one, shown_two, window_load}
use Rattle.seeking.proofs.short_runs.Goals as goal
use Rattle.seeking.proofs.short_runs.Goals.{Else-pixels-rest, then-three-ne0+else-three-ne0-2+else-leads, else-three-ne0}

-- a run of the same pixels and symbols
same_run : {s : List ℕ} {j p n p' n' : ℕ} → p ≡ p' → n ≡ n' → ShortRun s j p' n' → ShortRun s j p n
same_run a b r = rw (a, b) r

-- the run of a turn
run_of : (c : Else-pixels-rest) → ShortRun (symbols_of c.args.stream.now) c.loop-j.j c.if-three-ne0.pixels c.if-three-ne0.symbols
run_of c =
    let w = c.loop-j.invariant.symbols in
    let more : c.loop-j.j + 3 ≤ c.args.at + 29 = omega (arith, c.loop-j-test.true) in
    elim c.if-three-ne0.branch [
      | then-three-ne0+else-three-ne0-2+else-leads t ↦
          same_run t.pixels-is t.symbols-is (shown_two w more (omega (arith, t.if-leads.false)) t.if-three-ne0.true t.if-three-ne0-2.false)
      | else-three-ne0 t ↦
          same_run t.pixels-is t.symbols-is (shown_one w more c.if-first-eq0.false t.if-three-ne0.false)
    ]

pub loop-j-init : goal.loop-j-init
loop-j-init c =
    let a = c.args in
    let b = a.stream.now in
    let v = c.load_few.result in
    short_none (symbols_of b) a.at a.top (v * 2 ^ (2 * (a.at % 4)) % 2 ^ 64) (window_load b a.at v c.if-at-stream.true c.load_few.ensures)

pub overflow_add-points : goal.overflow_add-points
overflow_add-points c =
    let run = run_of (goal.at.overflow_add-points c).Else-pixels-rest in
    omega (arith, short-room c.loop-j.invariant run c.if-pixels-rest.false c.requires.0)

pub loop-j-preserved : goal.loop-j-preserved
loop-j-preserved c =
    let run = run_of (goal.at.loop-j-preserved c).Else-pixels-rest in
    let p = c.if-three-ne0.pixels in
    let n = c.if-three-ne0.symbols in
    let l = c.loop-j in
    let a = c.args in
    let low : l.rest - p < 64 = omega (arith, run.point, c.requires.0, l.invariant.less) in
    subst (λ (x : ℕ). ShortWalk (symbols_of a.stream.now) a.at a.top (l.points + x) (l.rest - p) (l.j + n) (l.window * 2 ^ (2 * n) % 2 ^ 64))
    (sym (power_is (l.rest - p) low)) (short_on l.invariant run c.if-pixels-rest.false)
