-- `minimal::bands::band_of` meets its contract. The rows above the first with ink and from the end on are blank, and so are their bytes.
use Rattle.std.proofs.Common.{◌-◌, ◌≡◌, arith, rules}
use Rattle.raster.proofs.BandLaws.{rows-blank}
use Rattle.minimal.proofs.bands.band_of.Goals as goal

pub returns : goal.returns
returns c =
    let a = c.args in
    let end = c.end_row-end in
    let e : a.h - (a.h - end.result) ≡ end.result = omega arith in
    record {
      rows = omega arith;
      order = search rules;
      room = search rules;
      top = λ d l u. rows-blank a.r 0 _ a.plane.now c.first_row-above.ensures.blank d (omega arith) u;
      bottom = rw e (rows-blank a.r _ a.h a.plane.now end.ensures.blank);
      start = rw e (search rules);
      end = rw e (search rules);
    }
