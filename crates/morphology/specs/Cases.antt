-- The settled cases of 01, A to E and G to L, J to L as 02 moves them, and a few more: a call, and what it answers and leaves.
-- Definitions only; proofs/Cases.antt has the claim.
-- Rows of pixels and of labels are written as 01 writes them, a decimal digit each. Buffers to be written hold 7 before the call,
-- work holds 9 and one byte more than it needs.
use Rattle.std.specs.Prelude.{List, [], ◌++◌, ◌∷◌, map, ◌≡◌, ◌%◌, ◌*◌, ◌+◌, ◌-◌, ◌/◌, ◌^◌, suc, zero, ℕ, replicate}
use Rattle.morphology.specs.Answers.{Outcome, blank, foreground, minimal, outcome, refused, skeleton, thinned}
use Rattle.morphology.specs.Image.{image_set, plane_bytes}
use Rattle.morphology.specs.Labels.{area}
use Rattle.morphology.specs.Operations.{decomposed, hit_or_miss, minimised, reconstructed, thin}
use Rattle.morphology.specs.Thinning.{thin_pass}

abbrev pub SQUARE : ℕ
SQUARE = 473536

abbrev pub RIGHT : ℕ
RIGHT = 12288

abbrev pub LEFT : ℕ
LEFT = 6144

-- ---- drawings

-- n decimal digits of v, as numbers, and read as binary digits
abbrev pub digits : ℕ → ℕ → List ℕ
digits zero v = []
digits (suc n) v = v / 10 ^ n % 10 ∷ digits n v

abbrev pub binary : ℕ → ℕ → ℕ
binary zero v = 0
binary (suc n) v = v / 10 ^ n % 10 * 2 ^ n + binary n v

-- rows of W labels
abbrev pub labels' : ℕ → List ℕ → List ℕ
labels' W [] = []
labels' W (v ∷ vs) = digits W v ++ labels' W vs

-- rows of W pixels, at most eight, so a byte each
abbrev pub scan : ℕ → List ℕ → List ℕ
scan W rows = map (λ v. binary W v * 2 ^ (8 - W)) rows

-- ---- buffers

-- work before a call and after a success
abbrev pub dirty : ℕ → ℕ → List ℕ
dirty W H = replicate (3 * plane_bytes W H + 1) 9

abbrev pub tidy : ℕ → ℕ → List ℕ
tidy W H = replicate (3 * plane_bytes W H) 0 ++ (9 ∷ [])

abbrev pub sevens : ℕ → List ℕ
sevens n = replicate n 7

-- ---- calls: what happens, what should

abbrev pub Case : Type 0
Case = Outcome × Outcome

-- an image, its points, its largest size, its labels
abbrev pub apart : ℕ → ℕ → ℕ → List ℕ → ℕ → ℕ → List ℕ → Case
apart W H e image points largest labels = (
  decomposed W H e (scan W image) (sevens (W * H)) (dirty W H),
  outcome (skeleton points largest) (labels' W labels ∷ tidy W H ∷ []),
)

-- an empty image: no points, no largest size
abbrev pub apart_blank : ℕ → ℕ → ℕ → List ℕ → List ℕ → Case
apart_blank W H e image labels = (
  decomposed W H e (scan W image) (sevens (W * H)) (dirty W H),
  outcome blank (labels' W labels ∷ tidy W H ∷ []),
)

-- labels, a cut, the reconstructed area and image
abbrev pub rebuilt : ℕ → ℕ → ℕ → List ℕ → ℕ → ℕ → List ℕ → Case
rebuilt W H e labels k n image = (
  reconstructed W H e k (labels' W labels) (sevens (plane_bytes W H)) (dirty W H),
  outcome (foreground n) (scan W image ∷ tidy W H ∷ []),
)

-- labels, a cut, the refusal
abbrev pub rebuilt_not : ℕ → ℕ → ℕ → List ℕ → ℕ → ℕ → Case
rebuilt_not W H e labels k number = (
  reconstructed W H e k (labels' W labels) (sevens (plane_bytes W H)) (dirty W H),
  outcome (refused number) (sevens (plane_bytes W H) ∷ dirty W H ∷ []),
)

-- labels, the points left, the labels left
abbrev pub shortened : ℕ → ℕ → ℕ → List ℕ → ℕ → List ℕ → Case
shortened W H e labels n left = (
  minimised W H e (labels' W labels) (dirty W H) (sevens (W * H)),
  outcome (minimal n) (labels' W left ∷ tidy W H ∷ replicate (W * H) 0 ∷ []),
)

-- a mask, an image, the hit points
abbrev pub hits : ℕ → ℕ → ℕ × ℕ → List ℕ → ℕ → List ℕ → Case
hits W H m image n out = (
  hit_or_miss W H m (scan W image) (sevens (plane_bytes W H)),
  outcome (foreground n) (scan W out ∷ []),
)

-- masks, an image, the area and image left by a step of each in turn
abbrev pub steps : ℕ → ℕ → List (ℕ × ℕ) → List ℕ → ℕ → List ℕ → Case
steps W H ms image n left =
    let t = thin_pass W H ms (scan W image) in
    (outcome (foreground (area W H (image_set W H t))) (t ∷ []), outcome (foreground n) (scan W left ∷ []))

-- an image, the passes made, the points removed, the area and image left
abbrev pub thins : ℕ → ℕ → List ℕ → ℕ → ℕ → ℕ → List ℕ → Case
thins W H image p r n left = (
  thin W H (scan W image) (dirty W H),
  outcome (thinned p r n) (scan W left ∷ tidy W H ∷ []),
)

-- ---- the table

-- a block of 3 by 3 in the middle of a blank 5 by 5 sheet
abbrev pub middle : List ℕ
middle = 00000 ∷ 01110 ∷ 01110 ∷ 01110 ∷ 00000 ∷ []

unfoldable pub cases : List Case
cases =
    -- A
    apart 3 3 SQUARE (111 ∷ 111 ∷ 111 ∷ []) 1 1 (000 ∷ 020 ∷ 000 ∷ [])
    -- B, and shortened
    ∷ apart 5 3 SQUARE (11111 ∷ 11111 ∷ 11111 ∷ []) 3 1 (00000 ∷ 02220 ∷ 00000 ∷ [])
    ∷ shortened 5 3 SQUARE (00000 ∷ 02220 ∷ 00000 ∷ []) 2 (00000 ∷ 02020 ∷ 00000 ∷ [])
    -- C
    ∷ apart 5 5 SQUARE (11111 ∷ 11111 ∷ 11111 ∷ 11111 ∷ 11111 ∷ []) 1 2 (00000 ∷ 00000 ∷ 00300 ∷ 00000 ∷ 00000 ∷ [])
    -- D
    ∷ apart 1 1 SQUARE (1 ∷ []) 1 0 (1 ∷ [])
    -- E
    ∷ apart_blank 3 2 SQUARE (000 ∷ 000 ∷ []) (000 ∷ 000 ∷ [])
    -- G, then cuts 1, 2, 255, 256
    ∷ apart 4 1 RIGHT (1101 ∷ []) 2 1 (2001 ∷ [])
    ∷ rebuilt 4 1 RIGHT (2001 ∷ []) 1 2 (1100 ∷ [])
    ∷ rebuilt 4 1 RIGHT (2001 ∷ []) 2 0 (0000 ∷ [])
    ∷ rebuilt 4 1 RIGHT (2001 ∷ []) 255 0 (0000 ∷ [])
    ∷ rebuilt_not 4 1 RIGHT (2001 ∷ []) 256 7
    -- H
    ∷ apart 4 1 LEFT (1101 ∷ []) 2 1 (0201 ∷ [])
    -- I, and cut 1
    ∷ apart 4 3 SQUARE (1110 ∷ 1111 ∷ 1110 ∷ []) 2 1 (0000 ∷ 0201 ∷ 0000 ∷ [])
    ∷ rebuilt 4 3 SQUARE (0000 ∷ 0201 ∷ 0000 ∷ []) 1 9 (1110 ∷ 1110 ∷ 1110 ∷ [])
    -- J: masks 1 and 2 alone, then the step of 1 and the step of 2; the same block in the middle of a blank sheet
    ∷ hits 3 3 (464, 7) (111 ∷ 111 ∷ 111 ∷ []) 0 (000 ∷ 000 ∷ 000 ∷ [])
    ∷ hits 3 3 (152, 38) (111 ∷ 111 ∷ 111 ∷ []) 0 (000 ∷ 000 ∷ 000 ∷ [])
    ∷ steps 3 3 ((464, 7) ∷ (152, 38) ∷ []) (111 ∷ 111 ∷ 111 ∷ []) 9 (111 ∷ 111 ∷ 111 ∷ [])
    ∷ hits 5 5 (464, 7) middle 1 (00000 ∷ 00100 ∷ 00000 ∷ 00000 ∷ 00000 ∷ [])
    ∷ hits 5 5 (152, 38) middle 1 (00000 ∷ 00010 ∷ 00000 ∷ 00000 ∷ 00000 ∷ [])
    ∷ steps 5 5 ((464, 7) ∷ (152, 38) ∷ []) middle 8 (00000 ∷ 01010 ∷ 01110 ∷ 01110 ∷ 00000 ∷ [])
    -- K; the same block in the middle of a blank sheet
    ∷ thins 3 3 (111 ∷ 111 ∷ 111 ∷ []) 1 0 9 (111 ∷ 111 ∷ 111 ∷ [])
    ∷ thins 5 5 middle 3 4 5 (00000 ∷ 01010 ∷ 01100 ∷ 01000 ∷ 00000 ∷ [])
    -- L: cuts 0, 1, 2, and one that row 7 would refuse
    ∷ rebuilt_not 1 1 SQUARE (2 ∷ []) 0 5
    ∷ rebuilt_not 1 1 SQUARE (2 ∷ []) 1 5
    ∷ rebuilt_not 1 1 SQUARE (2 ∷ []) 2 5
    ∷ rebuilt_not 1 1 SQUARE (2 ∷ []) 256 5
    -- not of 01's table: the smallest size goes first
    ∷ shortened 3 1 RIGHT (221 ∷ []) 2 (220 ∷ [])
    ∷ []

-- each call's outcome is the one written beside it
abbrev pub Settled : Type 0
Settled = map (λ (c : Case). c.0) cases ≡ map (λ (c : Case). c.1) cases
