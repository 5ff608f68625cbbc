-- Ink in columns, as bytes that are or-ed show it.
use mathlib.Core.Bool.{Bool, ◌||◌, false, not, or-false, true}
use mathlib.Core.List.{List, Memᴰ}
use mathlib.Core.Logic.{◌⊎◌, inl, inr}
use mathlib.Core.Path.{◌∙◌, ◌≡◌, ap, ap₂, refl, subst, sym}
use Prim.Native.Nat.{◌%◌, ◌*◌, ◌+◌, ◌-◌, ◌/◌, ◌<◌, ◌^◌, ◌≤◌, ℕ}
use native.Mathlib.Decide.{dec_lt}
use native.Mathlib.Nat.{add-mul, mod-eq_of_lt, zero-add}
use native.Mathlib.Numerals.{add-one}
use native.Mathlib.Omega.{arith}
use lib.Bits.{bit_or}
use lib.Dec.{T, eqb, eqb→eq, lit<, ltb→lt}
use lib.IntN.{pos}
use lib.ListN.{get_or}
use Rattle.morphology.specs.Image.{bit_of, is_clean}
use Rattle.morphology.specs.Lists.{some_of, tabulate, up_to}
use Rattle.morphology.specs.Point.{at}
use Rattle.morphology.proofs.CountLaws.{any-suc}
use Rattle.morphology.proofs.CoverLaws.{of-up_to}
use Rattle.morphology.proofs.ImageLaws.{image_on, mem-row, row_mem}
use Rattle.morphology.proofs.TestLaws.{T_ext, any_in, any_out, or_l, or-out, or_r, upto, upto-out}
use Rattle.raster.specs.Frames.{Frame}
use Rattle.raster.specs.Rows.{row_bit}
use Rattle.raster.proofs.ByteLaws.{join-bit, zero_bit}
use Rattle.raster.proofs.PackLaws.{frame_row, row-image}
use Rattle.raster.proofs.RowLaws.{row_bit-at}
use Rattle.margins.specs.Columns.{Seen, column_ink, columns_ink}

-- the numbers from a up to b
abbrev pub span : ℕ → ℕ → List ℕ
span a b = tabulate (λ k. k) a (b - a)

-- some of them passes
pub span_in : (p : ℕ → Bool) (a b k : ℕ) → a ≤ k → k < b → T (p k) → T (some_of p (span a b))
span_in p a b k l u t =
    let z : a + (k - a) ≡ k = omega arith in
    any_in p (subst (λ (n : ℕ). Memᴰ n (span a b)) z (mem-row (λ k. k) a (b - a) (k - a) (omega arith))) t

pub span-out : (p : ℕ → Bool) (a b : ℕ) → T (some_of p (span a b)) → (k : ℕ) × (a ≤ k) × (k < b) × T (p k)
span-out p a b t =
    let r = any_out p (span a b) t in
    let m = row_mem (λ k. k) a (b - a) r.1 in
    (r.0, omega (arith, m.2), omega (arith, m.1, m.2), r.2)

-- ---- rows, one after the other

column_more : (s : List ℕ) (r y x : ℕ) → column_ink s r (y + 1) x ≡ (column_ink s r y x || row_bit s (8 * (y * r) + x))
column_more s r y x =
    let p : ℕ → Bool = λ y. row_bit s (8 * (y * r) + x) in
    ap (λ (n : ℕ). some_of p (up_to n)) (add-one y) ∙ any-suc p (λ y. y) 0 y ∙ ap (λ (n : ℕ). some_of p (up_to y) || p n) (zero-add y)

pub seen_none : (s : List ℕ) (r c : ℕ) → Seen s r 0 c 0
unfolding tabulate
seen_none s r c k l = zero_bit 0 k refl

pub seen_one : (s : List ℕ) (r y c v i : ℕ) → i ≡ y * r + c → Seen s r y c v → Seen s r (y + 1) c (bit_or v (get_or s i 0))
seen_one s r y c v i e f k l =
    let q : 8 * (y * r + c) + k ≡ 8 * (y * r) + (8 * c + k) = omega arith in
    join-bit true v (get_or s i 0) k
    ∙ ap₂ ◌||◌ (f k l) (ap (λ (n : ℕ). bit_of (get_or s n 0) k) e ∙ sym (row_bit-at s (y * r + c) k l) ∙ ap (row_bit s) q)
    ∙ sym (column_more s r y (8 * c + k))

or_four : (v u a b c d : Bool) → ((v || (a || b)) || (u || (c || d))) ≡ (((((v || u) || a) || b) || c) || d)
or_four true u a b c d = refl
or_four false true true b c d = refl
or_four false true false true c d = refl
or_four false true false false c d = refl
or_four false false true b c d = refl
or_four false false false true c d = refl
or_four false false false false c d = refl

-- four rows at a time, in two parts
pub seen_four : (s : List ℕ) (r y e c v u i : ℕ) → e ≡ y + 4 → i ≡ y * r + c → Seen s r y c (bit_or v u)
    → Seen s r e c (bit_or (bit_or v (bit_or (get_or s i 0) (get_or s (i + r) 0))) (bit_or u (bit_or (get_or s (i + 2 * r) 0) (get_or s (i + 3 * r) 0))))
seen_four s r y e c v u i q p f k l = apart ∙ sym joined ∙ whole k l ∙ ap (λ (n : ℕ). column_ink s r n (8 * c + k)) four
  where
    x : ℕ → ℕ
    x j = get_or s (i + j * r) 0

    at_row : (j n : ℕ) → n ≡ y + j → i + j * r ≡ n * r + c
    at_row j n z = let d = add-mul y j r in let t = ap (λ (n : ℕ). n * r) z in omega arith

    four : y + 1 + 1 + 1 + 1 ≡ e
    four = omega arith

    whole : Seen s r (y + 1 + 1 + 1 + 1) c (bit_or (bit_or (bit_or (bit_or (bit_or v u) (x 0)) (x 1)) (x 2)) (x 3))
    whole =
        seen_one s r (y + 1 + 1 + 1) c _ (i + 3 * r) (at_row 3 (y + 1 + 1 + 1) (omega arith))
        (seen_one s r (y + 1 + 1) c _ (i + 2 * r) (at_row 2 (y + 1 + 1) (omega arith))
        (seen_one s r (y + 1) c _ (i + 1 * r) (at_row 1 (y + 1) (omega arith)) (seen_one s r y c _ (i + 0 * r) (at_row 0 y (omega arith)) f)))

    bits : ℕ → Bool
    bits n = bit_of n k

    or-bit : (m n : ℕ) → bits (bit_or m n) ≡ (bits m || bits n)
    or-bit m n = join-bit true m n k

    joined : bits (bit_or (bit_or (bit_or (bit_or (bit_or v u) (x 0)) (x 1)) (x 2)) (x 3))
        ≡ (((((bits v || bits u) || bits (x 0)) || bits (x 1)) || bits (x 2)) || bits (x 3))
    joined =
        or-bit (bit_or (bit_or (bit_or (bit_or v u) (x 0)) (x 1)) (x 2)) (x 3)
        ∙ ap (λ (t : Bool). t || bits (x 3))
        (or-bit (bit_or (bit_or (bit_or v u) (x 0)) (x 1)) (x 2)
        ∙ ap (λ (t : Bool). t || bits (x 2))
        (or-bit (bit_or (bit_or v u) (x 0)) (x 1)
        ∙ ap (λ (t : Bool). t || bits (x 1)) (or-bit (bit_or v u) (x 0) ∙ ap (λ (t : Bool). t || bits (x 0)) (or-bit v u))))

    apart : bits (bit_or (bit_or v (bit_or (get_or s i 0) (get_or s (i + r) 0))) (bit_or u (bit_or (x 2) (x 3))))
        ≡ (((((bits v || bits u) || bits (x 0)) || bits (x 1)) || bits (x 2)) || bits (x 3))
    apart =
        let z : i ≡ i + 0 * r = omega arith in
        let o : i + r ≡ i + 1 * r = omega arith in
        ap₂ (λ (m n : ℕ). bits (bit_or (bit_or v (bit_or (get_or s m 0) (get_or s n 0))) (bit_or u (bit_or (x 2) (x 3))))) z o
        ∙ or-bit (bit_or v (bit_or (x 0) (x 1))) (bit_or u (bit_or (x 2) (x 3)))
        ∙ ap₂ ◌||◌ (or-bit v (bit_or (x 0) (x 1)) ∙ ap (λ (t : Bool). bits v || t) (or-bit (x 0) (x 1)))
        (or-bit u (bit_or (x 2) (x 3)) ∙ ap (λ (t : Bool). bits u || t) (or-bit (x 2) (x 3)))
        ∙ or_four (bits v) (bits u) (bits (x 0)) (bits (x 1)) (bits (x 2)) (bits (x 3))

-- ---- some pixels of a byte

-- both or neither
agree : Bool → Bool → Bool
agree true b = b
agree false b = not b

agree_eq : (a b : Bool) → T (agree a b) → a ≡ b
unfolding agree
agree_eq true true t = refl
agree_eq true false t = absurd t
agree_eq false true t = absurd t
agree_eq false false t = refl

-- the first n
first-bits : (v n : ℕ) → v < 256 → n < 3 → not (eqb (v / 2 ^ (8 - n)) 0) ≡ some_of (bit_of v) (span 0 n)
unfolding bit_of tabulate agree
first-bits v n hv hn =
    agree_eq (not (eqb (v / 2 ^ (8 - n)) 0)) (some_of (bit_of v) (span 0 n)) (upto-out (λ v. test v n) 256 v hv (upto-out (λ n. upto (λ v. test v n) 256) 3 n hn tt))
  where
    test : ℕ → ℕ → Bool
    test v n = agree (not (eqb (v / 2 ^ (8 - n)) 0)) (some_of (bit_of v) (span 0 n))

-- the last n
last-bits : (v n : ℕ) → v < 256 → n < 9 → not (eqb (v % 2 ^ n) 0) ≡ some_of (bit_of v) (span (8 - n) 8)
unfolding bit_of tabulate agree
last-bits v n hv hn =
    agree_eq (not (eqb (v % 2 ^ n) 0)) (some_of (bit_of v) (span (8 - n) 8)) (upto-out (λ v. test v n) 256 v hv (upto-out (λ n. upto (λ v. test v n) 256) 9 n hn tt))
  where
    test : ℕ → ℕ → Bool
    test v n = agree (not (eqb (v % 2 ^ n) 0)) (some_of (bit_of v) (span (8 - n) 8))

-- all eight
pub byte-bits : (v : ℕ) → v < 256 → not (eqb v 0) ≡ some_of (bit_of v) (span 0 8)
byte-bits v h = ap (λ (n : ℕ). not (eqb n 0)) (sym (mod-eq_of_lt h)) ∙ last-bits v 8 h (lit< tt)

seen_span : (s : List ℕ) (r h c v a b : ℕ) → b ≤ 8 → Seen s r h c v → some_of (bit_of v) (span a b) ≡ columns_ink s r h (8 * c + a) (8 * c + b)
seen_span s r h c v a b hb f = T_ext
    (λ t.
    let q = span-out (bit_of v) a b t in
    span_in (column_ink s r h) (8 * c + a) (8 * c + b) (8 * c + q.0) (omega (arith, q.1)) (omega (arith, q.2)) (subst T (f q.0 (omega (arith, q.2))) q.3))
    (λ t.
    let q = span-out (column_ink s r h) (8 * c + a) (8 * c + b) t in
    let k = q.0 - 8 * c in
    let z : q.0 ≡ 8 * c + k = omega (arith, q.1) in
    let hk : k < b = omega (arith, q.1, q.2) in
    span_in (bit_of v) a b k (omega (arith, q.1)) hk (subst T (ap (column_ink s r h) z ∙ sym (f k (omega arith))) q.3))

-- ---- the columns within reach of the sides

pub shifted_one : (n : ℕ) → n < 9 → (1 * 2 ^ n) % 2 ^ 32 ≡ 2 ^ n
shifted_one n h = eqb→eq ((1 * 2 ^ n) % 2 ^ 32) (2 ^ n) (upto-out (λ n. eqb ((1 * 2 ^ n) % 2 ^ 32) (2 ^ n)) 9 n h tt)

pub start-ink : (s : List ℕ) (r h v left : ℕ) → v < 256 → left ≤ 2 → Seen s r h 0 v → not (eqb (v / 2 ^ (8 - left)) 0) ≡ columns_ink s r h 0 left
start-ink s r h v left hv hl f = first-bits v left hv (omega arith) ∙ seen_span s r h 0 v 0 left (omega arith) f ∙ ap (columns_ink s r h 0) (zero-add left)

-- no column
pub none-ink : (s : List ℕ) (r h a b : ℕ) → b ≤ a → false ≡ columns_ink s r h a b
unfolding tabulate
none-ink s r h a b l = let z : b - a ≡ 0 = omega arith in sym (ap (λ (n : ℕ). some_of (column_ink s r h) (tabulate (λ x. x) a n)) z)

-- those from a up to b, and on up to c
columns-or : (s : List ℕ) (r h a b c : ℕ) → a ≤ b → b ≤ c → (columns_ink s r h a b || columns_ink s r h b c) ≡ columns_ink s r h a c
columns-or s r h a b c ab bc = T_ext (λ t. by (or-out L R t)) (λ t. let q = span-out p a c t in back q.0 q.1 q.2 q.3 (dec_lt q.0 b))
  where
    p : ℕ → Bool
    p = column_ink s r h

    L : Bool
    L = columns_ink s r h a b

    R : Bool
    R = columns_ink s r h b c

    by : T L ⊎ T R → T (columns_ink s r h a c)
    by (inl t) = let q = span-out p a b t in span_in p a c q.0 q.1 (omega (arith, q.2)) q.3
    by (inr t) = let q = span-out p b c t in span_in p a c q.0 (omega (arith, q.1)) q.2 q.3

    back : (k : ℕ) → a ≤ k → k < c → T (p k) → Dec (k < b) → T (L || R)
    back k l u t (yes g) = or_l L R (span_in p a b k l g t)
    back k l u t (no g) = or_r L R (span_in p b c k (omega arith) u t)

-- the padding is clean
module _ {w h r : ℕ} (f : Frame w h r) (s : List ℕ) (clean : T (is_clean w h s)) where
  padding-none : false ≡ columns_ink s r h w (8 * r)
  padding-none = T_ext (λ t. absurd t) (λ t.
      let q = span-out (column_ink s r h) w (8 * r) t in
      let k = q.0 in
      let v = any_out (λ y. row_bit s (8 * (y * r) + k)) (up_to h) q.3 in
      let y = v.0 in
      let g = subst T (row-image w h r s f.row clean y k (of-up_to h v.1) q.2) v.2 in
      let l = ltb→lt k w ((image_on w h s).across (at (pos k) (pos y)) g) in
      omega (arith, q.1))

  padded : (a : ℕ) → a ≤ w → columns_ink s r h a (8 * r) ≡ columns_ink s r h a w
  padded a l =
      sym (columns-or s r h a w (8 * r) l (frame_row f).0) ∙ ap (λ (b : Bool). columns_ink s r h a w || b) (sym padding-none) ∙ or-false (columns_ink s r h a w)

  module _ (v right : ℕ) (hv : v < 256) (hw : right ≤ w) (seen : Seen s r h (r - 1) v) where
    pub end-ink : 8 * r - w + right < 9 → not (eqb (v % 2 ^ (8 * r - w + right)) 0) ≡ columns_ink s r h (w - right) w
    end-ink ht =
        let t = 8 * r - w + right in
        let g = frame_row f in
        let a : 8 * (r - 1) + (8 - t) ≡ w - right = omega (arith, g.0, g.2) in
        let b : 8 * (r - 1) + 8 ≡ 8 * r = omega (arith, g.2) in
        last-bits v t hv ht ∙ seen_span s r h (r - 1) v (8 - t) 8 (omega arith) seen ∙ ap₂ (columns_ink s r h) a b ∙ padded (w - right) (omega arith)

    -- where they lie in two bytes
    pub end_two : right ≤ 2 → right < w → 8 < 8 * r - w + right → (u : ℕ) → u < 256 → Seen s r h (r - 2) u
        → (not (eqb (u % 2) 0) || not (eqb v 0)) ≡ columns_ink s r h (w - right) w
    end_two h2 hr ht u hu before =
        let g = frame_row f in
        let a : 8 * (r - 2) + 7 ≡ w - right = omega (arith, g.0, g.1) in
        let b : 8 * (r - 2) + 8 ≡ w - right + 1 = omega (arith, g.0, g.1) in
        let c : 8 * (r - 1) + 0 ≡ w - right + 1 = omega (arith, g.0, g.1) in
        let d : 8 * (r - 1) + 8 ≡ 8 * r = omega (arith, g.2) in
        ap₂ ◌||◌
        (last-bits u 1 hu (lit< tt) ∙ seen_span s r h (r - 2) u 7 8 (omega arith) before ∙ ap₂ (columns_ink s r h) a b)
        (byte-bits v hv ∙ seen_span s r h (r - 1) v 0 8 (omega arith) seen ∙ ap₂ (columns_ink s r h) c d)
        ∙ columns-or s r h (w - right) (w - right + 1) (8 * r) (omega arith) (omega (arith, g.0)) ∙ padded (w - right) (omega arith)
