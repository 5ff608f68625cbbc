-- `raster::counts::word` meets its contract.
use Rattle.std.proofs.Common.{rules, arith, ◌≡◌, ◌+◌, ◌-◌, take, drop}
use Rattle.std.specs.Int.{from_le_bytes, w64}
use Rattle.raster.proofs.CountLaws.{gathered_word}
use Rattle.raster.proofs.counts.word.Goals as goal

pub returns : goal.returns
returns c =
    let i = c.args.i in
    let s = c.args.s.now in
    let k : i + 8 - i ≡ 8 = omega arith in
    let e : c.unwrap.result ≡ take (i + 8 - i) (drop i s) = search rules in
    let r : c.from_le_bytes.result ≡ from_le_bytes w64 (take 8 (drop i s)) = cc in
    rw r (gathered_word (omega arith) (λ j. omega (arith, c.type_inv.s j)))
