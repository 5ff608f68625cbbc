-- The table of refusals (01, "When the desk says no"), once for every operation. Definitions only; proofs/RefusalLaws.antt has the laws.
use Rattle.std.specs.Prelude.{Bool, ◌&&◌, cond, false, not, List, [], ◌∷◌, ◌*◌, suc, zero, ℕ, eqb, leb, ltb, length}
use Rattle.morphology.specs.Answers.{Outcome, outcome, refused}
use Rattle.morphology.specs.Element.{is_element, is_mask}
use Rattle.morphology.specs.Image.{is_clean, on_frame, plane_bytes}
use Rattle.morphology.specs.Labels.{label_at, places}
use Rattle.morphology.specs.Lists.{every_of, some_of}
use Rattle.morphology.specs.Morphology.{times}
use Rattle.morphology.specs.Point.{Point, ◌⊞◌}

-- the largest side, cut and n
abbrev pub max_side : ℕ
max_side = 255

abbrev pub is_side : ℕ → Bool
is_side n = leb 1 n && leb n max_side

-- an image that is not P bytes; labels or counters that are not W times H; work below k planes, and below the 3P of most operations
abbrev pub not_plane : ℕ → ℕ → List ℕ → Bool
not_plane W H s = not (eqb (length s) (plane_bytes W H))

abbrev pub not_places : ℕ → ℕ → List ℕ → Bool
not_places W H m = not (eqb (length m) (W * H))

abbrev pub short_planes : ℕ → ℕ → ℕ → List ℕ → Bool
short_planes k W H w = ltb (length w) (k * plane_bytes W H)

abbrev pub short_work : ℕ → ℕ → List ℕ → Bool
short_work W H w = short_planes 3 W H w

-- a point p with this label leaves the frame when it is dilated to its size
unfoldable pub leaves : ℕ → ℕ → List Point → Point → ℕ → Bool
leaves W H B p zero = false
leaves W H B p (suc n) = not (every_of (λ b. on_frame W H (p ⊞ b)) (times B n))

-- a point of the map m does, whatever its size
unfoldable pub is_wild : ℕ → ℕ → List Point → List ℕ → Bool
is_wild W H B m = some_of (λ p. leaves W H B p (label_at W H m p)) (places W H)

-- ---- the rows: a number, and given exactly when

abbrev pub Row : Type 0
Row = ℕ × Bool

-- W or H is 0 or above the largest side
abbrev pub row1 : ℕ → ℕ → Row
row1 W H = (1, not (is_side W && is_side H))

-- the element has a bit above 24, no origin, or fewer than two points
abbrev pub row2 : ℕ → Row
row2 e = (2, not (is_element e))

-- a lent buffer has a wrong length: the tests above, of each buffer
abbrev pub row3 : List Bool → Row
row3 wrong = (3, some_of (λ b. b) wrong)

-- an image that is read has a 1 in the padding
abbrev pub row4 : ℕ → ℕ → List ℕ → Row
row4 W H s = (4, not (is_clean W H s))

-- (02) in labels that are reconstructed, at whatever cut, or minimised, a point dilated to its size leaves the frame
abbrev pub row5 : ℕ → ℕ → List Point → List ℕ → Row
row5 W H B m = (5, is_wild W H B m)

-- a mask has a bit above 8, lacks the centre in the foreground, or its two numbers overlap
abbrev pub row6 : ℕ × ℕ → Row
row6 m = (6, not (is_mask m))

-- a cut, or the n of an erosion or opening, is above the largest side
abbrev pub row7 : ℕ → Row
row7 n = (7, ltb max_side n)

-- (02) the bytes needed exceed the lent output
abbrev pub row8 : ℕ → List ℕ → Row
row8 needed out = (8, ltb (length out) needed)

-- ---- the answer to the rows of a call, which stand in the table's order

-- the number of the first row that holds, so the lowest; 0 if there is none
unfoldable pub first_refusal : List Row → ℕ
first_refusal [] = 0
first_refusal (r ∷ rows) = cond r.1 r.0 (first_refusal rows)

-- a refusal leaves the buffers that stand here: the call's own as they are, and where a late row is tested with work cleared
abbrev pub unless : ℕ → List (List ℕ) → Outcome → Outcome
unless zero lent o = o
unless (suc n) lent o = outcome (refused (suc n)) lent

-- the call's rows, its buffers as they are, its outcome where no row holds
abbrev pub checked : List Row → List (List ℕ) → Outcome → Outcome
checked rows lent o = unless (first_refusal rows) lent o

-- the rows of an image alone
abbrev pub image_rows : ℕ → ℕ → List ℕ → List Row
image_rows W H image = row1 W H ∷ row3 (not_plane W H image ∷ []) ∷ row4 W H image ∷ []
