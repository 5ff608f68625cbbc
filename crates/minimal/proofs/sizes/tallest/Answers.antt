-- `minimal::sizes::tallest` meets its contract. The first place of the largest label is one of the map's, since the map has it.
use Rattle.minimal.proofs.PlaceLaws.{tallest-place}
use Rattle.minimal.proofs.sizes.tallest.Goals as goal

pub returns : goal.returns
returns c =
    let e = c.next_place.ensures in
    tallest-place c.args.labels.now _ _ c.requires c.greatest-top.ensures e.without e.within e.label
