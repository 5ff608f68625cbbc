-- `decomposition::turn` meets its contract. An opening, the labels of what it lacks, and the erosion copied down are one turn.
use Rattle.morphology.proofs.ElementLaws.{element-bit}
use Rattle.decomposition.proofs.TurnLaws.{turn_done}
use Rattle.decomposition.proofs.turn.Goals as goal

pub open_plane-clipped-requires : goal.open_plane-clipped-requires
open_plane-clipped-requires c =
    (c.requires.apart, c.requires.planes, element-bit c.args.element c.requires.element, c.requires.clean)

pub returns-clause-turn : goal.returns-clause-turn
returns-clause-turn c =
    let a = c.args in
    turn_done a.f.w a.f.h a.f.r a.q a.element a.work.now c.requires.frame c.requires.apart c.requires.planes _ _ a.labels.now _ a.v _
    c.open_plane-clipped.ensures.planes c.label_plane-points.ensures c.copy_down.ensures
