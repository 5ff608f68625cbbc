-- How long a text is at most.
use mathlib.Core.List.{List, [], ◌++◌, ◌∷◌}
use mathlib.Core.Path.{◌≡◌, ap}
use Prim.Native.Nat.{◌*◌, ◌+◌, ◌/◌, ◌<◌, ◌≤◌, suc, zero, zero-le, ℕ}
use native.Mathlib.Decide.{dec_lt}
use native.Mathlib.Nat.{min-le_left, mul-le-mul, suc-mul}
use native.Mathlib.Omega.{arith}
use lib.ListN.{drop, length, length-append, length-take, take}
use Rattle.morphology.specs.Lists.{greatest}
use Rattle.label_read.proofs.PointLaws.{greatest-drop, greatest-take}
use Rattle.listing.specs.Appended.{TextFits}
use Rattle.listing.specs.Printed.{longest, refusal_text, side, skeleton_text}
use Rattle.listing.specs.Text.{after, decimal, line, line_feed, map_text, space, spaced}
use Rattle.listing.proofs.AnswerLaws.{counts, counts_pieces, refusal_pieces, skeleton_pieces}
use Rattle.listing.proofs.AppendLaws.{size_of}
use Rattle.listing.proofs.TextLaws.{decimal_large, decimal-small, words}

-- ---- numbers

one_digit : (n : ℕ) → n < 10 → length (decimal n) ≤ 1
one_digit n l = omega (arith, ap length (decimal-small n l))

-- ten times as large, a digit more
digit_more : (k b : ℕ) → ((n : ℕ) → n < b → length (decimal n) ≤ k) → (n : ℕ) → n < 10 * b → length (decimal n) ≤ k + 1
digit_more k b f n l = by (dec_lt n 10)
  where
    by : Dec (n < 10) → length (decimal n) ≤ k + 1
    by (yes d) = omega (arith, one_digit n d)
    by (no d) = omega (arith, size_of (decimal (n / 10)) _ (decimal_large n (omega arith)), f (n / 10) (omega arith))

pub three-digits : (n : ℕ) → n < 1000 → length (decimal n) ≤ 3
three-digits = digit_more 2 100 (digit_more 1 10 one_digit)

pub five-digits : (n : ℕ) → n < 100000 → length (decimal n) ≤ 5
five-digits = digit_more 4 10000 (digit_more 3 1000 three-digits)

-- ---- lines and maps of labels of three digits

after_words : (row : List ℕ) → greatest row < 1000 → length (after (words row)) ≤ 4 * length row
unfolding after greatest
after_words [] l = zero-le
after_words (n ∷ row) l =
    omega (arith, length-append (decimal n) (after (words row)), three-digits n (omega arith), after_words row (omega arith))

line_words : (W : ℕ) (row : List ℕ) → 0 < W → length row ≤ W → greatest row < 1000 → length (line (words row)) ≤ 4 * W
unfolding line spaced greatest
line_words W [] h k l = omega arith
line_words W (n ∷ row) h k l =
    omega (arith, length-append (decimal n ++ after (words row)) (line_feed ∷ []), length-append (decimal n) (after (words row)), three-digits n (omega arith), after_words row (omega arith))

map_words : (W H : ℕ) (m : List ℕ) → 0 < W → greatest m < 1000 → length (map_text W H m) ≤ H * (4 * W)
unfolding map_text
map_words W zero m h l = zero-le
map_words W (suc H) m h l =
    let row = take W m in
    let a = line_words W row h (omega (arith, length-take W m, min-le_left W (length m))) (omega (arith, greatest-take W m)) in
    let b = map_words W H (drop W m) h (omega (arith, greatest-drop W m)) in
    omega (arith, length-append (line (words row)) (map_text W H (drop W m)), suc-mul H (4 * W))

-- ---- answers

pub refusal-length : (n : ℕ) → n < 10 → length (refusal_text n) ≤ longest
refusal-length n l = omega (arith, ap length (refusal_pieces n), length-append (decimal n) (line_feed ∷ []), one_digit n l)

pub refusal-room : {n : ℕ} {out : List ℕ} → n < 10 → length out ≡ longest → TextFits (refusal_text n) 0 out
refusal-room {n} {out} l e = record { fits = omega (arith, refusal-length n l) }

-- the largest output: every number of the first line with its most digits, and a label for each place of the largest image
pub skeleton-length : (W H points : ℕ) (largest m : List ℕ) → 0 < W → W ≤ side → H ≤ side → points < 100000 → length largest ≤ 3 → greatest m < 1000
    → length (skeleton_text W H points largest m) ≤ longest
skeleton-length W H points largest m w a b p s g =
    let c = three-digits W (omega arith) in
    let d = three-digits H (omega arith) in
    let e = five-digits points p in
    let k : 4 * W ≤ 4 * side = omega arith in
    omega (
      arith,
      ap length (skeleton_pieces W H points largest m),
      length-append (counts W H points) (space ∷ (largest ++ (line_feed ∷ map_text W H m))),
      length-append largest (line_feed ∷ map_text W H m),
      ap length (counts_pieces (decimal W) (decimal H) (decimal points)),
      length-append (decimal W) (space ∷ (decimal H ++ (space ∷ decimal points))),
      length-append (decimal H) (space ∷ decimal points),
      map_words W H m w g,
      mul-le-mul b k,
    )
