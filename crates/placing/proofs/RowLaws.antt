-- Words of pixels in rows of bytes, read and written.
use mathlib.Core.Bool.{Bool, ◌||◌, false, or-false, true}
use mathlib.Core.List.{List}
use mathlib.Core.Path.{◌∙◌, ◌≡◌, ap, ap₂, refl, subst, subst₂, sym}
use Prim.Native.Nat.{◌%◌, ◌*◌, ◌+◌, ◌-◌, ◌/◌, ◌<◌, ◌^◌, ◌≤◌, suc, zero, ℕ}
use native.Mathlib.Decide.{dec_lt}
use native.Mathlib.Nat.{add-zero, div-one, zero-add}
use native.Mathlib.Omega.{arith}
use lib.Bits.{bit_or}
use lib.Dec.{eqb}
use lib.ListN.{get_or, length, length-set, set}
use lib.Pow.{shl_exact, shl_lt, shl-shr}
use lib.Seq.{ext_get_or, get_or-set_other, get_or-set_same}
use Rattle.std.specs.Int.{to_be_bytes, w64}
use Rattle.std.specs.Prelude.{Option}
use Rattle.morphology.specs.Element.{bit}
use Rattle.morphology.specs.Image.{bit_of}
use Rattle.morphology.specs.Lists.{tabulate}
use Rattle.morphology.proofs.ImageLaws.{below_top, get_or-row, length-row}
use Rattle.raster.specs.Rows.{RowIs, row_bit}
use Rattle.raster.proofs.ByteLaws.{join-bit}
use Rattle.raster.proofs.RowLaws.{row_bit-at, row_bit-same}
use Rattle.reading.specs.Seeking.{Seek, sought_all, sought_points}
use Rattle.reading.specs.declared.Next.{Next}
use Rattle.sections.specs.Words.{Word}
use Rattle.sections.proofs.WordLaws.{bit_high, bit_low, bit-zero}
use Rattle.placing.specs.Planes.{PixelsSought, pixels_at, row_place}
use Rattle.seeking.specs.Words.{WordSought, word_bits}
use Rattle.seeking.proofs.OnwardLaws.{length_word-bits}

-- ---- the pixels of a word

-- the highest bit is leftmost
pub bits_at : (m v i : ℕ) → i < m → get_or (word_bits m v) i false ≡ bit v (m - 1 - i)
unfolding word_bits
bits_at zero v i h = absurd (omega arith)
bits_at (suc m) v zero h = let e : m ≡ suc m - 1 - 0 = omega arith in ap (bit v) e
bits_at (suc m) v (suc i) h = let e : m - 1 - i ≡ suc m - 1 - suc i = omega arith in bits_at m v i (omega arith) ∙ ap (bit v) e

-- as a table
pub bits-table : (f : ℕ → Bool) (m v : ℕ) → ((i : ℕ) → i < m → bit v (m - 1 - i) ≡ f i) → word_bits m v ≡ tabulate f 0 m
bits-table f m v h =
    ext_get_or false (word_bits m v) (tabulate f 0 m) (length_word-bits m v ∙ sym (length-row f 0 m)) (λ i l.
    let k : i < m = omega (arith, length_word-bits m v) in
    bits_at m v i k ∙ h i k ∙ sym (get_or-row f 0 m i false k ∙ ap f (zero-add i)))

-- ---- a word joined to bytes

-- byte j of the n of a word
abbrev pub word_byte : ℕ → ℕ → ℕ → ℕ
word_byte n v j = v / 2 ^ (8 * (n - 1 - j)) % 256

-- `to_be_bytes` has the eight of them
byte-of : (v j : ℕ) → j < 8 → get_or (to_be_bytes w64 v) j 0 ≡ word_byte 8 v j
byte-of v zero h = refl
byte-of v (suc zero) h = refl
byte-of v (suc (suc zero)) h = refl
byte-of v (suc (suc (suc zero))) h = refl
byte-of v (suc (suc (suc (suc zero)))) h = refl
byte-of v (suc (suc (suc (suc (suc zero))))) h = refl
byte-of v (suc (suc (suc (suc (suc (suc zero)))))) h = refl
byte-of v (suc (suc (suc (suc (suc (suc (suc zero))))))) h = ap (λ (q : ℕ). q % 256) (sym (div-one v))
byte-of v (suc (suc (suc (suc (suc (suc (suc (suc j)))))))) h = absurd (omega arith)

-- the last n
pub last_byte : (n v j : ℕ) → n ≤ 8 → j < n → get_or (to_be_bytes w64 v) (8 - n + j) 0 ≡ word_byte n v j
last_byte n v j h l =
    let e : 8 - 1 - (8 - n + j) ≡ n - 1 - j = omega arith in
    byte-of v (8 - n + j) (omega arith) ∙ ap (λ (q : ℕ). v / 2 ^ (8 * q) % 256) e

-- the first i of the n bytes of v joined to those at a
pub record BytesJoined (a n v i : ℕ) (old new : List ℕ) : Type 0 where
  pub size : length new ≡ length old
  pub joined : (j : ℕ) → j < i → get_or new (a + j) 0 ≡ bit_or (get_or old (a + j) 0) (word_byte n v j)
  pub before : (j : ℕ) → j < a → get_or new j 0 ≡ get_or old j 0
  pub after : (j : ℕ) → a + i ≤ j → get_or new j 0 ≡ get_or old j 0

-- none yet
pub bytes-none : (a n v : ℕ) (s : List ℕ) → BytesJoined a n v 0 s s
bytes-none a n v s = record {
  size = refl;
  joined = λ j l. absurd (omega arith);
  before = λ j l. refl;
  after = λ j l. refl;
}

-- one more
pub bytes_more : {a n v i : ℕ} {old new : List ℕ} (b : ℕ) → a + i < length old → b ≡ word_byte n v i → BytesJoined a n v i old new
    → BytesJoined a n v (i + 1) old (set new (a + i) (bit_or (get_or new (a + i) 0) b))
bytes_more {a} {n} {v} {i} {old} {new} b l e p = record {
  size = length-set new (a + i) (bit_or (get_or new (a + i) 0) b) ∙ p.size;
  joined = λ j m. by j m (dec_lt j i);
  before = λ j m. other j (λ e. omega arith) ∙ p.before j m;
  after = λ j m. other j (λ e. omega arith) ∙ p.after j (omega arith);
}
  where
    w : ℕ
    w = bit_or (get_or new (a + i) 0) b

    other : (j : ℕ) → (j ≡ a + i → ⊥) → get_or (set new (a + i) w) j 0 ≡ get_or new j 0
    other j f = get_or-set_other new (a + i) j w 0 f

    by : (j : ℕ) → j < i + 1 → Dec (j < i) → get_or (set new (a + i) w) (a + j) 0 ≡ bit_or (get_or old (a + j) 0) (word_byte n v j)
    by j m (yes d) = other (a + j) (λ e. omega arith) ∙ p.joined j d
    by j m (no d) =
        let z : i ≡ j = omega arith in
        subst (λ (j : ℕ). get_or (set new (a + i) w) (a + j) 0 ≡ bit_or (get_or old (a + j) 0) (word_byte n v j)) z
        (get_or-set_same new (a + i) w 0 (omega (arith, p.size)) ∙ ap₂ bit_or (p.after (a + i) (omega arith)) e)

-- all, as pixels
pub bytes_all : (a n v i : ℕ) (old new : List ℕ) → i ≡ n → BytesJoined a n v i old new
    → RowIs a n old new (λ x. row_bit old (8 * a + x) || bit v (8 * n - 1 - x))
unfolding bit_of
bytes_all a n v i old new z p = record {
  size = p.size;
  before = p.before;
  after = λ j l. p.after j (omega arith);
  pixels = λ x l.
      let j = x / 8 in
      let i = x % 8 in
      let h : i < 8 = omega arith in
      let e : 8 * a + x ≡ 8 * (a + j) + i = omega arith in
      let f : 7 - i + 8 * (n - 1 - j) ≡ 8 * n - 1 - x = omega arith in
      ap (row_bit new) e ∙ row_bit-at new (a + j) i h ∙ ap (λ (q : ℕ). bit_of q i) (p.joined j (omega arith))
      ∙ join-bit true (get_or old (a + j) 0) (word_byte n v j) i
      ∙ ap₂ ◌||◌ (sym (ap (row_bit old) e ∙ row_bit-at old (a + j) i h))
      (bit_low (v / 2 ^ (8 * (n - 1 - j))) 8 (7 - i) (omega arith) ∙ bit_high v (8 * (n - 1 - j)) (7 - i) ∙ ap (bit v) f);
}

-- a word without a point
pub bytes_same : (a n v : ℕ) (s : List ℕ) → v ≡ 0 → RowIs a n s s (λ x. row_bit s (8 * a + x) || bit v (8 * n - 1 - x))
bytes_same a n v s e = record {
  size = refl;
  before = λ j l. refl;
  after = λ j l. refl;
  pixels = λ x l.
      sym (ap (λ (b : Bool). row_bit s (8 * a + x) || b) (ap (λ (q : ℕ). bit q (8 * n - 1 - x)) e ∙ bit-zero (8 * n - 1 - x)) ∙ or-false (row_bit s (8 * a + x)));
}

-- ---- a word of pixels walked

-- a word's pixels are those at its byte
word-pixels : {s : List ℕ} {m v : ℕ} (a : ℕ) → Word s (8 * a) m v → word_bits m v ≡ pixels_at s (row_place a) m
word-pixels {s} {m} {v} a w = bits-table (λ i. row_bit s (row_place a i)) m v w.pixels

-- m pixels moved to the left end of n
shifted_in : (n m v i : ℕ) → m ≤ n → i < m → bit (v * 2 ^ (n - m)) (n - 1 - i) ≡ bit v (m - 1 - i)
shifted_in n m v i h l =
    let e : n - 1 - i ≡ m - 1 - i + (n - m) = omega arith in
    ap (bit (v * 2 ^ (n - m))) e ∙ sym (bit_high (v * 2 ^ (n - m)) (n - m) (m - 1 - i)) ∙ ap (λ (q : ℕ). bit q (m - 1 - i)) (shl-shr v (n - m))

shifted-out : (n m v i : ℕ) → m ≤ i → i < n → bit (v * 2 ^ (n - m)) (n - 1 - i) ≡ false
shifted-out n m v i h l =
    ap (λ (q : ℕ). bit q (n - 1 - i)) (sym (add-zero (v * 2 ^ (n - m))))
    ∙ ap (λ (q : ℕ). eqb q 1) (below_top v (n - m) 0 (n - 1 - i) (omega arith)) ∙ bit-zero (n - 1 - i)

-- in 64 bits none is lost
pub shifted_exact : (n m v : ℕ) → v < 2 ^ m → m ≤ 8 * n → n ≤ 8
    → ((v * 2 ^ (8 * n - m)) % 2 ^ 64 ≡ v * 2 ^ (8 * n - m)) × ((v * 2 ^ (8 * n - m)) % 2 ^ 64 < 2 ^ (8 * n))
shifted_exact n m v s h l =
    let k = 8 * n - m in
    let e : m + k ≡ 8 * n = omega arith in
    let x = shl_exact m k 64 s (omega arith) in
    (x, subst₂ (λ (a b : ℕ). a < 2 ^ b) (sym x) e (shl_lt m k s))

-- the walk over m pixels of n bytes, where its points are joined to the bytes
pub few-sought : {s : List ℕ} {limit : ℕ} {t : Seek} {next : Option Next} (a n m mask v u : ℕ) (old new : List ℕ) → m ≤ 8 * n → Word old (8 * a) m mask
    → WordSought s limit m (word_bits m mask) t v next → u ≡ v * 2 ^ (8 * n - m)
    → RowIs a n old new (λ x. row_bit old (8 * a + x) || bit u (8 * n - 1 - x))
    → PixelsSought s limit m (row_place a) t old new next
few-sought {s} {limit} {t} {next} a n m mask v u old new h w p e r = record {
  size = r.size;
  pixels = λ i l.
      r.pixels i (omega arith)
      ∙ ap (λ (b : Bool). row_bit old (8 * a + i) || b) (at i ∙ shifted_in (8 * n) m v i h l ∙ sym (bits_at m v i l)
      ∙ ap (λ (k : List Bool). get_or k i false) marks);
  others = λ x f. by x f (dec_lt x (8 * a)) (dec_lt x (8 * (a + n)));
  stands = p.stands ∙ ap (λ (l : List Bool). sought_all limit l t) (word-pixels a w);
}
  where
    marks : word_bits m v ≡ sought_points limit (pixels_at old (row_place a) m) t
    marks = p.marks ∙ ap (λ (l : List Bool). sought_points limit l t) (word-pixels a w)

    at : (i : ℕ) → bit u (8 * n - 1 - i) ≡ bit (v * 2 ^ (8 * n - m)) (8 * n - 1 - i)
    at i = ap (λ (q : ℕ). bit q (8 * n - 1 - i)) e

    by : (x : ℕ) → ((i : ℕ) → i < m → 8 * a + i ≡ x → ⊥) → Dec (x < 8 * a) → Dec (x < 8 * (a + n)) → row_bit new x ≡ row_bit old x
    by x f (yes d) g = row_bit-same new old x (r.before (x / 8) (omega arith))
    by x f (no d) (no g) = row_bit-same new old x (r.after (x / 8) (omega arith))
    by x f (no d) (yes g) =
        let i = x - 8 * a in
        let z : 8 * a + i ≡ x = omega arith in
        ap (row_bit new) (sym z) ∙ r.pixels i (omega arith)
        ∙ ap (λ (b : Bool). row_bit old (8 * a + i) || b) (at i ∙ shifted-out (8 * n) m v i (past i z (dec_lt i m)) (omega arith))
        ∙ or-false (row_bit old (8 * a + i)) ∙ ap (row_bit old) z
      where
        past : (i : ℕ) → 8 * a + i ≡ x → Dec (i < m) → m ≤ i
        past i z (yes l) = absurd (f i l z)
        past i z (no l) = omega arith
