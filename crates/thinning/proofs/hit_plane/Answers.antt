-- `thinning::hit_plane` meets its contract. What the mask's foreground and its background ask, both joined to a copy of the image and
-- cleared at the edge, are the hits.
use native.Mathlib.Omega.{arith}
use mathlib.Core.Path.{ap}
use lib.ListN.{length}
use Rattle.thinning.proofs.HitRows.{both_asked, hits_done, widened_centre}
use Rattle.thinning.proofs.MaskLaws.{mask_of}
use Rattle.thinning.proofs.hit_plane.Goals as goal

pub widen-requires : goal.widen-requires
widen-requires c = (mask_of c.args.mask.fg c.args.mask.bg c.requires.2).fg-small

pub overflow_sub-widen : goal.overflow_sub-widen
overflow_sub-widen c =
    let m = mask_of c.args.mask.fg c.args.mask.bg c.requires.2 in
    omega (arith, c.widen.ensures, widened_centre c.args.mask.fg m.fg-small m.centre)

pub join_plane-requires : goal.join_plane-requires
join_plane-requires c = (omega (arith, c.requires.0), omega (arith, ap length c.copy.ensures, c.requires.0))

pub widen-requires-2 : goal.widen-requires-2
widen-requires-2 c =
    let m = mask_of c.args.mask.fg c.args.mask.bg c.requires.2 in
    omega (arith, m.fg-small, m.bg-small)

pub join_plane-requires-2 : goal.join_plane-requires-2
join_plane-requires-2 c = (omega (arith, c.requires.0), omega (arith, c.requires.1, c.join_plane.ensures.size))

pub returns : goal.returns
returns c =
    let a = c.args in
    hits_done a.f.w a.f.h a.f.r a.mask.fg a.mask.bg _ _ a.image.now _ _ _ c.args.f.sheet.frame c.requires.0 c.requires.2 c.requires.3 (λ i. (c.slice_known-5-1.given i).fits)
    c.widen.ensures c.widen-2.ensures c.copy.ensures (both_asked a.f.r a.f.h _ _ a.image.now _ _ _ c.join_plane.ensures c.join_plane-2.ensures)
    c.clear.ensures
