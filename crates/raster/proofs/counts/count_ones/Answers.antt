-- `raster::counts::count_ones` meets its contract.
use mathlib.Core.Path.{◌∙◌, ap₂, sym}
use Prim.Native.Nat.{◌*◌, ◌+◌, ◌-◌, ◌/◌}
use native.Mathlib.Omega.{arith}
use lib.ListN.{length}
use Rattle.raster.proofs.CountLaws.{ones_more, ones-whole}
use Rattle.raster.proofs.counts.count_ones.Goals as goal

pub returns : goal.returns
returns c =
    let s = c.args.s.now in
    let q = 7 * (length s / 224 * 32) in
    ap₂ ◌+◌ c.count_parts-parts.ensures.0 c.count_few.ensures.0 ∙ sym (ones_more s q (length s - q)) ∙ ones-whole s (q + (length s - q)) (omega arith)
