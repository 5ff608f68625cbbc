-- `placing::read_size` meets its contract: a size is over at once, or its first run begins a walk over the whole plane.
use Prim.Native.Nat.{◌*◌, ◌<◌, ℕ}
use native.Mathlib.Nat.{mul-le-mul_left}
use native.Mathlib.Omega.{arith}
use lib.ListN.{drop, get_or}
use Rattle.std.specs.Prelude.{None, Option, Some}
use Rattle.coding.specs.Symbols.{symbols_of}
use Rattle.reading.specs.declared.Next.{Next}
use Rattle.reading.specs.declared.Next.TheVariants.{Ended, Run}
use Rattle.reading.proofs.SeekLaws.{first_below}
use Rattle.placing.specs.Planes.{PixelsWalked, SizeRead, plane_place}
use Rattle.placing.proofs.PlaneLaws.{frame-pixels}
use Rattle.placing.proofs.SizeLaws.{section_of, size_once, size_walked}
use Rattle.placing.proofs.read_size.Goals as goal
use Rattle.placing.proofs.read_size.Goals.{After-place_blocks}

-- the walk from the first run on, where it ends with `next`
walked : (c : After-place_blocks) (next : Option Next) → let a = c.args in
    PixelsWalked (symbols_of a.stream.now) (a.f.w * a.f.h) (a.f.w * a.f.h) (plane_place a.f.w a.f.r) c.in-Run.first.left c.in-Run.first.at a.plane.now c.place_blocks.new.plane next
    → ((i : ℕ) → get_or c.place_blocks.new.plane i 0 < 256)
    → SizeRead (symbols_of a.stream.now) a.f.w a.f.h a.at a.plane.now c.place_blocks.new.plane (section_of next)
walked c next p bytes =
    let a = c.args in
    let q = c.requires in
    size_walked (symbols_of a.stream.now) a.at a.plane.now c.args.f.sheet.frame q.2 q.1 next (rw c.in-Run.is at c.in_ok-end.ensures) p bytes

pub returns-in_err-end : goal.returns-in_err-end
returns-in_err-end c =
    let a = c.args in
    let q = c.requires in
    rw c.from_residual.ensures (size_once (symbols_of a.stream.now) a.at a.plane.now c.args.f.sheet.frame q.2 q.1 None tt c.in_err-end.ensures (λ i. (c.type_inv.plane i).fits))

pub returns-in-Ended : goal.returns-in-Ended
returns-in-Ended c =
    let a = c.args in
    let q = c.requires in
    let e = rw c.in-Ended.is at c.in_ok-end.ensures in
    size_once (symbols_of a.stream.now) a.at a.plane.now c.args.f.sheet.frame q.2 q.1 (Some (Ended c.in-Ended.end)) tt e (λ i. (c.type_inv.plane i).fits)

pub place_blocks-requires : goal.place_blocks-requires
place_blocks-requires c =
    let a = c.args in
    let s = symbols_of a.stream.now in
    let q = c.requires in
    let e = rw c.in-Run.is at c.in_ok-end.ensures in
    let k = first_below (a.f.w * a.f.h) c.in-Run.first.left (drop a.at s) (drop c.in-Run.first.at s) e.0 in
    (omega (arith, mul-le-mul_left a.f.w q.0), q.1, q.2, k, omega (arith, frame-pixels c.args.f.sheet.frame), omega (arith, k, e.1, frame-pixels c.args.f.sheet.frame, q.3))

pub returns-in_err-end-in-Run : goal.returns-in_err-end-in-Run
returns-in_err-end-in-Run c =
    rw c.from_residual-in_err-end-in-Run.ensures
    (walked (goal.at.returns-in_err-end-in-Run c).After-place_blocks None c.in_err-end-in-Run.ensures (λ i. (c.type_inv.plane i).fits))

pub returns-in-Ended-2 : goal.returns-in-Ended-2
returns-in-Ended-2 c =
    let n = c.in-Ended-2 in
    walked (goal.at.returns-in-Ended-2 c).After-place_blocks (Some (Ended n.end)) (rw n.is at c.in_ok-end-in-Run.ensures) (λ i. (c.type_inv.plane i).fits)

pub returns-in-Run-2 : goal.returns-in-Run-2
returns-in-Run-2 c =
    let n = c.in-Run-2 in
    walked (goal.at.returns-in-Run-2 c).After-place_blocks (Some (Run n.past)) (rw n.is at c.in_ok-end-in-Run.ensures) (λ i. (c.type_inv.plane i).fits)
