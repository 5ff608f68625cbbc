use Rattle.std.proofs.Common.{◌+◌, ◌-◌, ◌≤◌, length, arith, rules, sym, ◌∙◌}
use Rattle.minimal.proofs.PlaceLaws.{without_block}
use Rattle.minimal.proofs.places.past_blocks.Goals as goal

pub loop-i-preserved : goal.loop-i-preserved
loop-i-preserved c =
    let m = c.args.labels.now in
    let i = c.loop-i.i in
    let k = c.args.k in
    let h : i + k ≤ length m = omega arith in
    let b = without_block c.args.v i k (i + k - i) m (omega arith) h (sym c.has_label.ensures ∙ c.if-has_label.false) in
    (omega arith, h, search rules)
