-- `listing::text::put_map` meets its contract. The invariant: the text of the first y rows is appended.
use Rattle.listing.specs.Appended.{Appended}
use Rattle.listing.specs.Text.{map_text}
use Rattle.listing.proofs.text.put_map.Given as goal

abbrev pub invariant-loop-y : goal.invariant-loop-y
invariant-loop-y l = Appended (map_text l.w l.y l.labels) l.at l.next l.initial.out l.out
