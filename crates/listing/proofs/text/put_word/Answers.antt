-- `listing::text::put_word` meets its contract. The first word is its digits; any other has a space before them.
use mathlib.Core.List.{[], ◌∷◌}
use Rattle.listing.specs.Text.{decimal, space}
use Rattle.listing.proofs.AppendLaws.{appended_then}
use Rattle.listing.proofs.TextLaws.{word_next}
use Rattle.listing.proofs.text.put_word.Goals as goal

pub returns : goal.returns
returns c =
    appended_then (space ∷ []) (decimal c.args.n) (word_next c.args.i (decimal c.args.n) c.if-i-eq0.false) c.put-word.ensures c.put_decimal-2.ensures
