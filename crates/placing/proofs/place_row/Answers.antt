use mathlib.Core.Path.{◌≡◌}
use mathlib.Core.List.{List}
use Prim.Native.Nat.{◌*◌, ◌+◌, ◌-◌, ◌/◌, ℕ}
use native.Mathlib.Omega.{arith}
use Rattle.std.specs.Prelude.{Option, Some}
use Rattle.coding.specs.Symbols.{symbols_of}
use Rattle.reading.specs.declared.Next.{Next}
use Rattle.seeking.proofs.OnwardLaws.{run_of}
use Rattle.placing.specs.Planes.{PixelsWalked, row_place}
use Rattle.placing.proofs.WalkLaws.{Increasing, walk_more, walk_none, walk-over, walk_sized}
use Rattle.placing.proofs.place_row.Goals as goal

-- a row's pixels come one after the other
rising : (a : ℕ) → Increasing (row_place a)
rising a i j l = omega arith

-- m pixels after x words
more : {s : List ℕ} {limit m left at k j : ℕ} {old mid new : List ℕ} {next : Option Next} (a x : ℕ)
    → PixelsWalked s limit (64 * x) (row_place a) left at old mid (Some (run_of k j)) → PixelsWalked s limit m (row_place (a + 8 * x)) k j mid new next
    → PixelsWalked s limit (64 * x + m) (row_place a) left at old new next
more a x p q = walk_more (rising a) (λ i l. omega arith) p q

pub loop-x-init : goal.loop-x-init
loop-x-init c = walk_none (symbols_of c.args.stream.now) (row_place c.args.a) c.args.run.at c.args.plane.now c.requires.4

pub returns-in_err-next : goal.returns-in_err-next
returns-in_err-next c =
    let l = c.loop-x in
    rw c.from_residual.ensures (walk-over c.args.w (omega (arith, c.requires.0)) (rising c.args.a) tt (more c.args.a l.x l.invariant c.in_err-next.ensures))

pub returns-in_default : goal.returns-in_default
returns-in_default c =
    let l = c.loop-x in
    walk-over c.args.w (omega (arith, c.requires.0)) (rising c.args.a) (rw c.in_default.is tt) (more c.args.a l.x l.invariant c.in_ok-next.ensures)

pub loop-x-preserved : goal.loop-x-preserved
loop-x-preserved c =
    let l = c.loop-x in
    let e : 64 * l.x + 64 ≡ 64 * (l.x + 1) = omega arith in
    walk_sized e (more c.args.a l.x l.invariant (rw c.in-Run.is at c.in_ok-next.ensures))

pub returns : goal.returns
returns c =
    let a = c.args in
    let n = (a.w - 1) / 64 in
    let all : c.loop-x.x ≡ n = omega arith in
    let e : 64 * n + (a.w - 64 * n) ≡ a.w = omega (arith, c.requires.0) in
    walk_sized e (more a.a n (rw all at c.loop-x.invariant) c.place_few-2.ensures)
