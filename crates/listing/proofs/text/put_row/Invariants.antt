-- `listing::text::put_row` meets its contract. The invariant: the first i words are appended, with spaces between.
use lib.ListN.{take}
use Rattle.listing.specs.Appended.{Appended}
use Rattle.listing.specs.Text.{spaced}
use Rattle.listing.proofs.TextLaws.{words}
use Rattle.listing.proofs.text.put_row.Given as goal

abbrev pub invariant-loop-i : goal.invariant-loop-i
invariant-loop-i l = Appended (spaced (take l.i (words l.row))) l.at l.next l.initial.out l.out
