-- Reading size by size and run by run, as a loop over the symbols does. Definitions only; proofs/ReadLaws.antt has the laws: it is the reading of Maps.antt.
use Rattle.std.specs.Prelude.{Bool, ◌&&◌, cond, List, [], ◌∷◌, map, suc, zero, ℕ, ltb}
use Rattle.std.proofs.Math.Option.{Option, none, some}
use Rattle.coding.specs.Runs.{mask, unmasked}
use Rattle.reading.specs.Maps.{Reading, label_in}
use Rattle.reading.specs.Points.{among, and_point, placed}
use Rattle.reading.specs.Splits.{Splitting, between, is_numeral, split, start, value}
use Rattle.morphology.specs.Labels.{raster}
use Rattle.morphology.specs.Lists.{every_of}
use Rattle.morphology.specs.Point.{Point}

-- ---- one size at a time

-- what was read, and the symbols left
abbrev pub with_rest : {A : Type 0} → List ℕ → Option A → Option (A × List ℕ)
with_rest rest none = none
with_rest rest (some a) = some (a, rest)

-- the points of runs over a list of pixels
abbrev pub placed_runs : List Point → List (List ℕ) → List ℕ → Option (List Point × List ℕ)
placed_runs l ws rest = let found = with_rest rest (placed l (map value ws)) in cond (every_of is_numeral ws) found none

abbrev pub first_size : List (List (List ℕ)) → List (List ℕ)
first_size [] = []
first_size (ws ∷ sizes) = ws

-- the points of the first size
abbrev pub first_points : List Point → Option Splitting → Option (List Point × List ℕ)
first_points l none = none
first_points l (some r) = placed_runs l (first_size r.0) r.1

-- one size from the symbols s, over the pixels l
unfoldable pub read_size : List Point → List ℕ → Option (List Point × List ℕ)
read_size l s = first_points l (split s start 1)

-- n sizes, below those in the list
unfoldable pub read_sizes : ℕ → ℕ → List Point → List (Point → Bool) → List ℕ → ℕ → Option (List (Point → Bool) × List ℕ)
read_sizes W H B larger s zero = some (larger, s)
read_sizes W H B larger s (suc n) =
    elim (read_size (unmasked W H (mask B larger)) s) [ none ↦ none | some q ↦ read_sizes W H B (among q.0 ∷ larger) q.1 n ]

-- the map of the sets read, and the symbols left
abbrev pub map_of : ℕ → ℕ → Option (List (Point → Bool) × List ℕ) → Option Reading
map_of W H none = none
map_of W H (some q) = some (raster W H (label_in 0 q.0), q.1)

-- ---- one run at a time

abbrev pub digit_then : ℕ → Option (List ℕ × List ℕ) → Option (List ℕ × List ℕ)
digit_then d none = none
digit_then d (some q) = some (d ∷ q.0, q.1)

-- the digits up to a comma, and the symbols after it
unfoldable pub take_run : List ℕ → Option (List ℕ × List ℕ)
take_run [] = none
take_run (zero ∷ s) = some ([], s)
take_run (suc d ∷ s) = digit_then d (take_run s)

-- the pixel after r of a list, and those after it
unfoldable pub pixel_after : List Point → ℕ → Option (Point × List Point)
pixel_after [] r = none
pixel_after (z ∷ l) zero = some (z, l)
pixel_after (z ∷ l) (suc r) = pixel_after l r

-- a run passes the list, or ends at a point
abbrev pub then_placed : Option (Point × List Point) → List ℕ → Option (List Point)
then_placed none rs = none
then_placed (some t) rs = and_point t.0 (placed t.1 rs)

abbrev pub point_then : Point → Option (List Point × List ℕ) → Option (List Point × List ℕ)
point_then z none = none
point_then z (some q) = some (z ∷ q.0, q.1)

-- the points of a size whose runs so far are read: over the pixels l, from the symbols s
unfoldable pub read_more : List Point → List ℕ → Option (List Point × List ℕ)
read_more l s = first_points l (split s between 0)

abbrev pub then_points : Option (Point × List Point) → List ℕ → Option (List Point × List ℕ)
then_points none s = none
then_points (some t) s = point_then t.0 (read_more t.1 s)

-- a run: no leading zero, the pixel that it ends at, the runs after it
abbrev pub then_more : List Point → Option (List ℕ × List ℕ) → Option (List Point × List ℕ)
then_more l none = none
then_more l (some q) = let points = then_points (pixel_after l (value q.0)) q.1 in cond (is_numeral q.0) points none

-- a run with no leading zero and a value below a limit: the value, and the symbols after it
abbrev pub short_run : ℕ → Option (List ℕ × List ℕ) → Option (ℕ × List ℕ)
short_run limit none = none
short_run limit (some q) = cond (is_numeral q.0 && ltb (value q.0) limit) (some (value q.0, q.1)) none
