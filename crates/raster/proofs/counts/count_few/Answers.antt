use Rattle.std.proofs.Common.{◌≡◌, refl, arith, ap, drop, length, length-drop, take, ◌*◌, ◌+◌, ◌/◌}
use lib.Seq.{length-take-le}
use Rattle.std.specs.Int.Count.{ones}
use Rattle.morphology.specs.Image.{ones_of}
use Rattle.raster.proofs.CountLaws.{chunk-at, ones_more, ones_next, ones-whole, ones-word}
use Rattle.raster.proofs.PartLaws.{part_bytes}
use Rattle.raster.proofs.counts.count_few.Goals as goal

pub loop-w-init : goal.loop-w-init
unfolding ones_of
loop-w-init c = (refl, omega arith)

pub loop-w-preserved : goal.loop-w-preserved
loop-w-preserved c =
    let k = c.loop-w.w-index in
    let s = c.args.s.now in
    let e : 8 * (k + 1) ≡ 8 * k + 8 = omega arith in
    let w = chunk-at 8 (length s / 8) k s (omega arith) in
    let h = ones-word (take 8 (drop (8 * k) s)) (length-take-le 8 (drop (8 * k) s) (omega (arith, length-drop (8 * k) s))) (part_bytes (8 * k) 8 s (λ j. omega (arith, c.type_inv.s j)) (omega arith)) in
    let m = ones_more s (8 * k) 8 in
    (cc, omega arith)

pub loop-b-init : goal.loop-b-init
unfolding ones_of
loop-b-init c =
    let e : 8 * c.loop-w.w-index ≡ length c.args.s.now / 8 * 8 = omega arith in
    (omega (arith, ap (λ n. ones_of (take n c.args.s.now)) e), omega arith)

pub loop-b-preserved : goal.loop-b-preserved
loop-b-preserved c =
    let m = ones_next c.as_chunks.result.1.now c.loop-b.b-index c.loop-b-test.true in
    (omega (arith, m, ap ones c.from.ensures), omega arith)

pub returns : goal.returns
returns c =
    let s = c.args.s.now in
    let m = ones_more s (length s / 8 * 8) c.loop-b.b-index in
    let a = ones-whole s (length s / 8 * 8 + c.loop-b.b-index) (omega arith) in
    (cc, omega arith)
