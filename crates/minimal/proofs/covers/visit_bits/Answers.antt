use Rattle.std.proofs.Common.{◌+◌, arith}
use Rattle.morphology.specs.Image.{bit_of}
use Rattle.minimal.proofs.MoveLaws.{done_more, part_ready, pixel_of, pixel_slot}
use Rattle.minimal.proofs.covers.visit_bits.Goals as goal

pub visit_pixel-all-requires : goal.visit_pixel-all-requires
visit_pixel-all-requires g c t =
    let a = c.args in
    let l = c.loop-k in
    let b = c.is_ink in
    let k = g.V.Visit.task in
    let F = bit_of a.b in
    let e = pixel_of F l.k b.result b.ensures in
    pixel_slot k b.result (a.at + l.k) a.a l.counters t
    (part_ready F (λ _. b.result) a.at l.k 1 a.a e k 8 a.counters.now l.counters l.all (omega arith) c.requires.1 l.invariant)

pub loop-k-preserved : goal.loop-k-preserved
loop-k-preserved g c =
    let a = c.args in
    let l = c.loop-k in
    let b = c.is_ink in
    let p = c.visit_pixel-all in
    let F = bit_of a.b in
    let e = pixel_of F l.k b.result b.ensures in
    done_more F (λ _. b.result) a.at l.k 1 a.a e g.V.Visit.task a.counters.now l.counters _ l.all p.result l.invariant p.ensures
