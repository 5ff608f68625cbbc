use mathlib.Core.Path.{◌≡◌, ap}
use Prim.Native.Nat.{◌%◌, ◌*◌, ◌+◌, ◌/◌}
use native.Mathlib.Omega.{arith}
use Rattle.sections.specs.Words.{row_kinds}
use Rattle.sections.proofs.PlaneLaws.{row_on, row_kind, table-count, table_more, table_none, table-room, walked_as}
use Rattle.sections.proofs.walk_row.Goals as goal

pub loop-k-init : goal.loop-k-init
loop-k-init g c =
    let a = c.args in
    table_none (row_kind a.s.now a.a a.b) g.P.Pen.down a.out.now a.pen.at a.pen.run

pub walk_whole-pen-requires : goal.walk_whole-pen-requires
walk_whole-pen-requires g c =
    let a = c.args in
    let l = c.loop-k in
    let f = row_kind a.s.now a.a a.b in
    let x = 64 * l.k in (
      omega (arith, c.requires.0),
      omega (arith, c.requires.1),
      omega (arith, c.requires.2, table-count f x l.invariant),
      table-room f x 64 a.w (omega arith) (row_on a.s.now a.a a.b x (8 * l.k) 64 (omega arith)) c.requires.4 l.invariant,
    )

pub loop-k-preserved : goal.loop-k-preserved
loop-k-preserved g c =
    let a = c.args in
    let l = c.loop-k in
    let x = 64 * l.k in
    let e : x + 64 ≡ 64 * (l.k + 1) = omega arith in
    walked_as (ap (row_kinds a.s.now a.a a.b 0) e)
    (table_more (row_kind a.s.now a.a a.b) x 64 (row_on a.s.now a.a a.b x (8 * l.k) 64 (omega arith)) l.invariant c.walk_whole-pen.ensures)

pub walk_few-requires : goal.walk_few-requires
walk_few-requires g c =
    let a = c.args in
    let l = c.loop-k in
    let x = 64 * l.k in
    let f = row_kind a.s.now a.a a.b in (
      omega arith,
      omega arith,
      omega (arith, c.requires.0),
      omega (arith, c.requires.1),
      omega (arith, c.requires.2, table-count f x l.invariant),
      table-room f x (a.w % 64) a.w (omega arith) (row_on a.s.now a.a a.b x (a.w / 64 * 8) (a.w % 64) (omega arith)) c.requires.4 l.invariant,
    )

pub returns : goal.returns
returns g c =
    let a = c.args in
    let l = c.loop-k in
    let x = 64 * l.k in
    let e : x + a.w % 64 ≡ a.w = omega arith in
    walked_as (ap (row_kinds a.s.now a.a a.b 0) e)
    (table_more (row_kind a.s.now a.a a.b) x (a.w % 64) (row_on a.s.now a.a a.b x (a.w / 64 * 8) (a.w % 64) (omega arith)) l.invariant c.walk_few.ensures)
