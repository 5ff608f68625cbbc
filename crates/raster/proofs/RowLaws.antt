-- Pixels of rows.
use mathlib.Core.Bool.{Bool, ◌&&◌, cond, false, not, true}
use mathlib.Core.List.{List}
use mathlib.Core.Path.{◌∙◌, ◌≡◌, ap, ap₂, sym}
use Prim.Native.Nat.{◌%◌, ◌*◌, ◌+◌, ◌-◌, ◌/◌, ◌<◌, ◌≤◌, ℕ}
use native.Mathlib.Decide.{dec_lt}
use native.Mathlib.Nat.{add-mul, le_refl, mul-le-mul_right, suc-mul}
use native.Mathlib.Omega.{arith}
use lib.Bits.{bit_and, bit_xor, xor_zero_r}
use lib.Dec.{eqb}
use lib.ListN.{get_or, length}
use Rattle.morphology.specs.Image.{bit_of}
use Rattle.raster.specs.Rows.{Pixelwise, RowJoined, exchange_byte, join, join_byte, read_bit, row_bit}
use Rattle.raster.proofs.ByteLaws.{inverted-bit, join-bit, less-bit, moved-bit, moved_byte, win, win-left, win_right}
use Rattle.raster.proofs.LoopLaws.{Mapped}

-- pixel 8 q + m of a row
pub row_bit-at : (row : List ℕ) (q m : ℕ) → m < 8 → row_bit row (8 * q + m) ≡ bit_of (get_or row q 0) m
unfolding row_bit
row_bit-at row q m h =
    let eq : (8 * q + m) / 8 ≡ q = omega arith in
    let em : (8 * q + m) % 8 ≡ m = omega arith in
    ap₂ (λ (x y : ℕ). bit_of (get_or row x 0) y) eq em

pub row_bit-same : (a b : List ℕ) (x : ℕ) → get_or a (x / 8) 0 ≡ get_or b (x / 8) 0 → row_bit a x ≡ row_bit b x
unfolding row_bit
row_bit-same a b x e = ap (λ (n : ℕ). bit_of n (x % 8)) e

-- pixel 8 q + m, of one of two neighbouring bytes
row_bit_win : (row : List ℕ) (q m : ℕ) → get_or row (q + 1) 0 < 256 → m < 16 → row_bit row (8 * q + m) ≡ eqb (win (get_or row q 0) (get_or row (q + 1) 0) m) 1
row_bit_win row q m hb h = by (dec_lt m 8)
  where
    by : Dec (m < 8) → row_bit row (8 * q + m) ≡ eqb (win (get_or row q 0) (get_or row (q + 1) 0) m) 1
    by (yes l) = row_bit-at row q m l ∙ sym (win-left (get_or row q 0) (get_or row (q + 1) 0) m hb l)
    by (no l) =
        let g : 8 ≤ m = omega arith in
        let e : 8 * q + m ≡ 8 * (q + 1) + (m - 8) = omega arith in
        let w : m ≡ 8 + (m - 8) = omega arith in
        ap (row_bit row) e ∙ row_bit-at row (q + 1) (m - 8) (omega arith)
        ∙ sym (ap (λ (n : ℕ). eqb (win (get_or row q 0) (get_or row (q + 1) 0) n) 1) w ∙ win_right (get_or row q 0) (get_or row (q + 1) 0) (m - 8) hb (omega arith))

-- what the loop of `move_rows` makes of the byte at j
abbrev pub moved_at : List ℕ → ℕ → ℕ → ℕ → ℕ
moved_at buf o d j = moved_byte (get_or buf (o + j) 0) (get_or buf (o + j + 1) 0) d

-- a loop over bytes is one over pixels
pub mapped-pixels : (old new : List ℕ) (f : ℕ → ℕ) (g : ℕ → Bool → Bool) (n : ℕ) → length old ≤ n → Mapped f old new n
    → ((i k : ℕ) → i < n → k < 8 → bit_of (f i) k ≡ g (8 * i + k) (bit_of (get_or old i 0) k)) → Pixelwise old new g
mapped-pixels old new f g n h m each = record {
  size = m.size;
  pixels = λ x l.
      let i : ℕ = x / 8 in
      let k : ℕ = x % 8 in
      let e : x ≡ 8 * i + k = omega arith in
      let hi : i < n = omega arith in
      let hk : k < 8 = omega arith in
      ap (row_bit new) e ∙ row_bit-at new i k hk ∙ ap (λ (v : ℕ). bit_of v k) (m.done i hi) ∙ each i k hi hk
      ∙ ap (g (8 * i + k)) (sym (row_bit-at old i k hk)) ∙ sym (ap (λ (y : ℕ). g y (row_bit old y)) e);
}

-- a byte exchanged
exchanged-bit : (i : Bool) (m b k : ℕ) → m ≡ exchange_byte i → k < 8 → bit_of (bit_xor b m) k ≡ cond i (not (bit_of b k)) (bit_of b k)
exchanged-bit true m b k e h = ap (λ (n : ℕ). bit_of (bit_xor b n) k) e ∙ inverted-bit b k h
exchanged-bit false m b k e h = ap (λ (n : ℕ). bit_of (bit_xor b n) k) e ∙ ap (λ (n : ℕ). bit_of n k) (xor_zero_r b)

-- the end of `join_rows`
pub rows-joined : (t i : Bool) (m : ℕ) (src old new : List ℕ) (n : ℕ) → m ≡ exchange_byte i → length old ≤ n
    → Mapped (λ j. join_byte t (get_or old j 0) (bit_xor (get_or src j 0) m)) old new n → RowJoined t old new (read_bit i src)
rows-joined t v q src old new n eq h m =
    mapped-pixels old new (λ j. join_byte t (get_or old j 0) (bit_xor (get_or src j 0) q)) (λ x b. join t b (read_bit v src x)) n h m (λ i k hi hk.
    join-bit t (get_or old i 0) (bit_xor (get_or src i 0) q) k
    ∙ ap (join t (bit_of (get_or old i 0) k)) (exchanged-bit v q (get_or src i 0) k eq hk ∙ ap (λ (c : Bool). cond v (not c) c) (sym (row_bit-at src i k hk))))

-- the end of `move_rows`
pub rows-moved : (buf old new : List ℕ) (s n : ℕ) → length old ≤ n → Mapped (moved_at buf (s / 8) (s % 8)) old new n
    → ((j : ℕ) → get_or buf j 0 < 256) → Pixelwise old new (λ x b. row_bit buf (x + s))
rows-moved buf old new s n h m rd =
    mapped-pixels old new (moved_at buf (s / 8) (s % 8)) (λ x b. row_bit buf (x + s)) n h m (λ i k hi hk.
    let o : ℕ = s / 8 in
    let d : ℕ = s % 8 in
    let hd : d < 8 = omega arith in
    let e : 8 * i + k + s ≡ 8 * (o + i) + (k + d) = omega arith in
    moved-bit (get_or buf (o + i) 0) (get_or buf (o + i + 1) 0) d k (rd (o + i)) (rd (o + i + 1)) hd hk ∙ sym (row_bit_win buf (o + i) (k + d) (rd (o + i + 1)) (omega arith)) ∙ sym (ap (row_bit buf) e))

-- the end of `subtract`
pub row_subtracted : (src old new : List ℕ) (n : ℕ) → length old ≤ n → Mapped (λ j. bit_and (get_or old j 0) (bit_xor (get_or src j 0) 255)) old new n
    → Pixelwise old new (λ x b. b && not (row_bit src x))
row_subtracted src old new n h m =
    mapped-pixels old new (λ j. bit_and (get_or old j 0) (bit_xor (get_or src j 0) 255)) (λ x b. b && not (row_bit src x)) n h m (λ i k hi hk.
    less-bit (get_or old i 0) (get_or src i 0) k hk ∙ ap (λ (c : Bool). bit_of (get_or old i 0) k && not c) (sym (row_bit-at src i k hk)))

-- ---- a row within a buffer of rows

pub row_in : (y h r n : ℕ) → y < h → h * r ≤ n → y * r + r ≤ n
row_in y h r n l m = omega (arith, mul-le-mul_right r l, suc-mul y r)

-- a rows and b more, of n
pub rows_in : (a b n r : ℕ) → a + b ≤ n → a * r + b * r ≤ n * r
rows_in a b n r l = omega (arith, add-mul a b r, mul-le-mul_right r l)

pub row_at : (p y h r n : ℕ) → y < h → p + h * r ≤ n → p + y * r + r ≤ n
row_at p y h r n l m = omega (arith, row_in y h r (h * r) l (le_refl (h * r)))
