use Rattle.std.proofs.Common.{arith, rules}
use Rattle.minimal.proofs.BandLaws.{row-fails, row_last, row_next, row_ready, row-start}
use Rattle.minimal.proofs.covers.visit_row.Goals as goal

pub loop-j-init : goal.loop-j-init
loop-j-init g c = row-start c.requires.0 g.V.Visit.task c.args.a c.args.counters.now

pub visit_byte-requires : goal.visit_byte-requires
visit_byte-requires g c =
    let b = c.requires.0 in
    let l = c.loop-j in (
      omega (arith, b.near, b.stride, b.margins.room),
      row_ready b g.V.Visit.task c.args.a l.j c.args.counters.now l.counters c.loop-j-test.true c.requires.1 l.invariant,
    )

pub returns-then-not-visit_byte : goal.returns-then-not-visit_byte
returns-then-not-visit_byte g c =
    let l = c.loop-j in
    row-fails c.requires.0 g.V.Visit.task c.args.a l.j c.args.counters.now l.counters _ _ c.loop-j-test.true l.invariant c.visit_byte.ensures
    (search rules)

pub loop-j-preserved : goal.loop-j-preserved
loop-j-preserved g c =
    let l = c.loop-j in
    row_next c.requires.0 g.V.Visit.task c.args.a l.j c.args.counters.now l.counters _ _ l.invariant c.visit_byte.ensures (search rules)

pub returns : goal.returns
returns g c =
    let b = c.requires.0 in
    let l = c.loop-j in
    row_last b g.V.Visit.task c.args.a l.j c.args.counters.now l.counters (omega (arith, b.margins.order)) l.invariant
