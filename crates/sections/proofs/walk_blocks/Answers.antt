use mathlib.Core.Path.{◌≡◌, subst}
use Prim.Native.Nat.{◌*◌, ◌+◌, ℕ}
use native.Mathlib.Nat.{mul_comm}
use native.Mathlib.Omega.{arith}
use Rattle.raster.proofs.RowLaws.{rows_in}
use Rattle.sections.specs.Pens.{PenWalked}
use Rattle.sections.proofs.PlaneLaws.{block-clean, block-fits, block-pixels, length_from, plane_kinds, rows_all, rows-count, rows_more, rows_none, rows-room}
use Rattle.sections.proofs.walk_blocks.Goals as goal

pub loop-y-init : goal.loop-y-init
loop-y-init g c =
    let a = c.args in
    (omega arith, rows_none a.f.w a.f.h a.q a.s.now g.P.Pen.down a.out.now a.pen.at a.pen.run)

pub walk_block-pen-requires : goal.walk_block-pen-requires
walk_block-pen-requires g c =
    let a = c.args in
    let l = c.loop-y in
    let n = c.block_rows-n.result in
    let b = c.block_rows-n.ensures.1 in
    let frame = c.args.f.sheet.frame in
    let e = mul_comm a.f.w n in
    let k = block-pixels a.f.w a.f.h a.f.r a.q n l.y a.s.now frame c.requires.1 b in (
      omega (arith, rows_in l.y n a.f.h a.f.r b, c.requires.0),
      omega (arith, length_from (l.y * a.f.r) a.s.now, block-fits a.f.w a.f.h a.f.r a.q n l.y a.s.now frame c.requires.1 b),
      block-clean a.f.w a.f.h a.f.r a.q n l.y a.s.now frame c.requires.1 b c.requires.2,
      omega (arith, rows-count a.f.w a.f.h a.q l.y n (a.f.w * n) a.s.now e b l.invariant.1, c.requires.3),
      rows-room a.f.w a.f.h a.q l.y n (a.f.w * n) a.s.now e b k c.requires.4 l.invariant.1,
    )

pub loop-y-preserved : goal.loop-y-preserved
loop-y-preserved g c =
    let a = c.args in
    let l = c.loop-y in
    let n = c.block_rows-n.result in
    let b = c.block_rows-n.ensures.1 in
    let p = c.walk_block-pen in
    let e : l.y + n ≡ l.y + 4 = omega (arith, c.block_rows-n.ensures.2) in (
      omega arith,
      subst (λ (y : ℕ). PenWalked g.P.Pen.down (plane_kinds a.f.w a.f.h a.q a.s.now (y * a.f.w)) a.out.now p.new.out a.pen.at a.pen.run p.result.at p.result.run) e
          (rows_more a.f.w a.f.h a.q l.y n (a.f.w * n) a.s.now (mul_comm a.f.w n) b (block-pixels a.f.w a.f.h a.f.r a.q n l.y a.s.now c.args.f.sheet.frame c.requires.1 b)
          l.invariant.1 p.ensures),
    )

pub returns-2 : goal.returns-2
returns-2 g c =
    let a = c.args in
    let l = c.loop-y in
    let n = c.block_rows-n.result in
    let b = c.block_rows-n.ensures.1 in
    rows_all a.f.w a.f.h a.q (l.y + n) a.s.now (omega (arith, c.block_rows-n.ensures.2))
    (rows_more a.f.w a.f.h a.q l.y n (a.f.w * n) a.s.now (mul_comm a.f.w n) b (block-pixels a.f.w a.f.h a.f.r a.q n l.y a.s.now c.args.f.sheet.frame c.requires.1 b)
    l.invariant.1 c.walk_block-pen.ensures)
