use Rattle.std.proofs.Common.{arith, rules}
use Rattle.minimal.proofs.BandLaws.{band-fails, band_last, band_next, band_ready, band-row, band-start}
use Rattle.minimal.proofs.covers.visit_cover.Goals as goal

pub loop-y-init : goal.loop-y-init
loop-y-init g c = band-start c.requires.0 g.V.Visit.task c.args.a c.args.i c.args.counters.now

pub visit_row-requires : goal.visit_row-requires
visit_row-requires g c =
    let a = c.args in
    let b = c.requires.0 in
    let l = c.loop-y in
    let h = c.loop-y-test.true in
    (band-row b l.y a.i c.requires.1 l.auto.y h, band_ready b g.V.Visit.task a.a a.i l.y a.counters.now l.counters h c.requires.2 l.invariant)

pub returns-then-not-visit_row : goal.returns-then-not-visit_row
returns-then-not-visit_row g c =
    let a = c.args in
    let l = c.loop-y in
    band-fails c.requires.0 g.V.Visit.task a.a a.i l.y a.counters.now l.counters _ _ c.loop-y-test.true l.invariant c.visit_row.ensures (search rules)

pub loop-y-preserved : goal.loop-y-preserved
loop-y-preserved g c =
    let a = c.args in
    let l = c.loop-y in
    band_next c.requires.0 g.V.Visit.task a.a a.i l.y a.counters.now l.counters _ _ c.loop-y-test.true l.invariant c.visit_row.ensures (search rules)

pub returns : goal.returns
returns g c =
    let a = c.args in
    let l = c.loop-y in
    band_last c.requires.0 g.V.Visit.task a.a a.i l.y a.counters.now l.counters (omega (arith, c.requires.0.bounds.rows)) l.invariant
