-- `thinning::edges::clear_row` meets its contract.
use native.Mathlib.Omega.{arith}
use Rattle.raster.proofs.PackLaws.{frame_row}
use Rattle.thinning.proofs.EdgeLaws.{first-row, last_row, row-cleared}
use Rattle.thinning.proofs.edges.clear_row.Goals as goal
use Rattle.thinning.proofs.edges.clear_row.Goals.{then-first-via-then-first, then-first-via-else-first+then-last}

pub returns-then-first : goal.returns-then-first
returns-then-first c =
    let a = c.args in
    row-cleared a.f.w a.f.h a.y a.row.now _
    (elim c.then-first.branch [
      | then-first-via-then-first t ↦ first-row a.f.h a.y (omega (arith, t.if-first.true, c.requires.1))
      | then-first-via-else-first+then-last t ↦ last_row a.f.h a.y (omega (arith, t.if-last.true, c.requires.1))
    ])
    (c.fill.ensures.after (λ y e. e))

pub clear_ends-requires : goal.clear_ends-requires
clear_ends-requires c =
    let f = c.args.f.sheet.frame in
    let k = frame_row f in
    (f.wide, omega (arith, k.0, c.requires.0), omega (arith, k.1, c.requires.0), omega (arith, k.3, c.requires.0))
