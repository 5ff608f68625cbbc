use mathlib.Core.List.{List, ◌++◌}
use mathlib.Core.Path.{sym}
use Prim.Native.Nat.{◌*◌, ◌+◌, ◌-◌, ◌≤◌, ℕ}
use native.Mathlib.Nat.{mul_comm, zero-mul}
use native.Mathlib.Omega.{arith}
use lib.ListN.{drop, length, take}
use Rattle.std.specs.Prelude.{Option, Some}
use Rattle.coding.specs.Symbols.{symbols_of}
use Rattle.raster.specs.Frames.{Frame}
use Rattle.raster.proofs.RowLaws.{rows_in}
use Rattle.reading.specs.declared.Next.{Next}
use Rattle.sections.proofs.PlaneLaws.{block-clean, length_from}
use Rattle.seeking.proofs.OnwardLaws.{run_of}
use Rattle.placing.specs.Planes.{PixelsWalked, plane_place}
use Rattle.placing.proofs.PlaneLaws.{frame-pixels, place_after, place-within, rows_more, rows-over, rows-within, sought-clean, walk-lent}
use Rattle.placing.proofs.WalkLaws.{walk_none, walk_sized}
use Rattle.placing.proofs.place_blocks.Goals as goal
use Rattle.placing.proofs.place_blocks.Goals.{After-block_rows-n}

-- the block's bytes are in the plane
fits : (c : After-block_rows-n) → let r = c.args.f.r in c.loop-y.y * r + c.block_rows-n.result * r ≤ length c.loop-y.plane
fits c =
    let l = c.loop-y in
    omega (arith, rows_in l.y c.block_rows-n.result c.args.f.h c.args.f.r c.block_rows-n.ensures.1, c.requires.1, l.invariant.1.found.size)

-- n rows more, lent from the plane
more : {w h r limit left at k j : ℕ} {s old mid ys : List ℕ} {next : Option Next} (y n : ℕ) → Frame w h r → y * r + n * r ≤ length mid
    → PixelsWalked s limit (y * w) (plane_place w r) left at old mid (Some (run_of k j))
    → PixelsWalked s limit (w * n) (plane_place w r) k j (take (length mid - y * r) (drop (y * r) mid)) ys next
    → PixelsWalked s limit ((y + n) * w) (plane_place w r) left at old (take (y * r) mid ++ (ys ++ drop (length mid - y * r) (drop (y * r) mid))) next
more {w} {r = r} {mid = mid} y n f h a b =
    let p = y * r in
    let k = length mid - p in
    rows_more y n f (mul_comm w n) (λ i m. place_after f y i) a
    (walk-lent (w * n) (plane_place w r) mid p k (omega arith) (λ i m. place-within f n k i (omega arith) m) b)

pub loop-y-init : goal.loop-y-init
loop-y-init c =
    let a = c.args in
    (omega arith, walk_sized (sym (zero-mul a.f.w)) (walk_none (symbols_of a.stream.now) (plane_place a.f.w a.f.r) a.run.at a.plane.now c.requires.3))

pub place_block-requires : goal.place_block-requires
place_block-requires c =
    let a = c.args in
    let l = c.loop-y in
    let n = c.block_rows-n.result in
    let b = c.block_rows-n.ensures.1 in
    let v = l.invariant.1 in
    let f = c.args.f.sheet.frame in
    let m = v.moved in (
      c.requires.0,
      omega (arith, length_from (l.y * a.f.r) l.plane, fits (goal.at.place_block-requires c).After-block_rows-n),
      block-clean a.f.w a.f.h a.f.r 0 n l.y l.plane f (omega (arith, c.requires.1, v.found.size)) b (sought-clean f v.found c.requires.2),
      m.1,
      c.requires.4,
      omega (arith, m.0, m.1, c.requires.4, c.requires.5, rows-within l.y 0 a.f.h a.f.w (omega arith), frame-pixels f),
    )

pub returns-in_err-next : goal.returns-in_err-next
returns-in_err-next c =
    let l = c.loop-y in
    let n = c.block_rows-n.result in
    let f = c.args.f.sheet.frame in
    let h = fits (goal.at.returns-in_err-next c).After-block_rows-n in
    rw c.from_residual.ensures (rows-over l.y n f c.block_rows-n.ensures.1 tt (more l.y n f h l.invariant.1 c.in_err-next.ensures))

pub returns-in_default : goal.returns-in_default
returns-in_default c =
    let l = c.loop-y in
    let n = c.block_rows-n.result in
    let f = c.args.f.sheet.frame in
    let h = fits (goal.at.returns-in_default c).After-block_rows-n in
    rows-over l.y n f c.block_rows-n.ensures.1 (rw c.in_default.is tt) (more l.y n f h l.invariant.1 c.in_ok-next.ensures)

pub loop-y-preserved : goal.loop-y-preserved
loop-y-preserved c =
    let l = c.loop-y in
    let n = c.block_rows-n.result in
    let h = fits (goal.at.loop-y-preserved c).After-block_rows-n in
    (c.block_rows-n.ensures.1, more l.y n c.args.f.sheet.frame h l.invariant.1 (rw c.in-Run.is at c.in_ok-next.ensures))
