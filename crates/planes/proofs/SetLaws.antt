-- What an element asks of the pixels near, and of sets.
use mathlib.Core.Bool.{Bool, cond, false, not, true}
use mathlib.Core.List.{List, ◌∷◌}
use mathlib.Core.Path.{◌∙◌, ◌≡◌, ap, ap₂, refl, subst, sym}
use Prim.Native.Nat.{◌%◌, ◌*◌, ◌+◌, ◌-◌, ◌/◌, ◌<◌, ◌^◌, ◌≤◌, suc, zero, ℕ}
use native.Mathlib.Decide.{dec_le, dec_lt}
use native.Mathlib.Nat.{add-suc, add-zero, suc-mul}
use native.Mathlib.Omega.{arith}
use borrow.Author.Tests.{le-leb, le-ltb, lt-leb, lt-ltb}
use lib.Arith.{digits_div, digits_mod}
use lib.Dec.{T, eqb}
use lib.IntN.{◌+ℤ◌, negsuc, neg_ℤ, pos, sub_ℕ, ℤ}
use lib.Pow.{shr-shr}
use Rattle.morphology.specs.Element.{bit, offset, offsets, offsets_below}
use Rattle.morphology.specs.Image.{image_set, is_clean, stride}
use Rattle.morphology.specs.Morphology.{dilate, erode}
use Rattle.morphology.specs.Point.{Point, ◌⊞◌, at, minus}
use Rattle.morphology.specs.Lists.{every_of, some_of}
use Rattle.morphology.proofs.FrameLaws.{OnFrame}
use Rattle.morphology.proofs.ImageLaws.{image_on}
use Rattle.morphology.proofs.OffsetLaws.{inside_sub, outside_sub, pos_sub}
use Rattle.morphology.proofs.TestLaws.{T_ext}
use Rattle.raster.specs.Rows.{join}
use Rattle.raster.proofs.PackLaws.{row-image}
use Rattle.planes.specs.Morphed.{morphed}
use Rattle.neighbours.specs.Neighbours.{five_of, joined, near_bit, neighbours, turned}
use Rattle.neighbours.proofs.NeighbourLaws.{below5, join_assoc, join_comm, join_unit, joined_same}

-- ---- what is near

off : (W H : ℕ) (s : List ℕ) (p : Point) → (T (image_set W H s p) → ⊥) → false ≡ image_set W H s p
off W H s p f = T_ext (λ t. absurd t) f

sub_pos : (a b : ℕ) → b ≤ a → sub_ℕ a b ≡ pos (a - b)
sub_pos a b h = ap (λ (t : Bool). cond t (negsuc (b - suc a)) (pos (a - b))) (le-ltb a b h)

stride_le : (W r : ℕ) → r ≡ stride W → W ≤ 8 * r
unfolding stride
stride_le W r q = omega arith

-- what is near is the image
pub near-image : (W H r : ℕ) (s : List ℕ) → r ≡ stride W → T (is_clean W H s) → (X Y : ℕ)
    → near_bit s r H X Y ≡ image_set W H s (at (sub_ℕ X 8) (sub_ℕ Y 2))
unfolding near_bit
near-image W H r s q clean X Y = by (dec_le 2 Y) (dec_lt (Y - 2) H) (dec_le 8 X) (dec_lt X (8 * r + 8))
  where
    p : Point
    p = at (sub_ℕ X 8) (sub_ℕ Y 2)

    on : OnFrame W H (image_set W H s)
    on = image_on W H s

    by : Dec (2 ≤ Y) → Dec (Y - 2 < H) → Dec (8 ≤ X) → Dec (X < 8 * r + 8) → near_bit s r H X Y ≡ image_set W H s (at (sub_ℕ X 8) (sub_ℕ Y 2))
    by (no a) b c d = simp (lt-leb 2 Y (omega arith)) (off W H s p (λ t. subst T (outside_sub H Y 2 (omega arith)) (on.down p t)))
    by (yes a) (no b) c d = simp (le-leb 2 Y a, le-ltb (Y - 2) H (omega arith)) (off W H s p (λ t. subst T (inside_sub H Y 2 a ∙ le-ltb (Y - 2) H (omega arith)) (on.down p t)))
    by (yes a) (yes b) (no c) d = simp (le-leb 2 Y a, lt-ltb (Y - 2) H b, lt-leb 8 X (omega arith)) (off W H s p (λ t. subst T (outside_sub W X 8 (omega arith)) (on.across p t)))
    by (yes a) (yes b) (yes c) (no d) =
        simp (le-leb 2 Y a, lt-ltb (Y - 2) H b, le-leb 8 X c, le-ltb X (8 * r + 8) (omega arith))
        (off W H s p (λ t. subst T (inside_sub W X 8 c ∙ le-ltb (X - 8) W (omega (arith, stride_le W r q))) (on.across p t)))
    by (yes a) (yes b) (yes c) (yes d) =
        simp (le-leb 2 Y a, lt-ltb (Y - 2) H b, le-leb 8 X c, lt-ltb X (8 * r + 8) d)
        (row-image W H r s q clean (Y - 2) (X - 8) b (omega arith)
        ∙ sym (ap₂ (λ (u v : ℤ). image_set W H s (at u v)) (sub_pos X 8 c) (sub_pos Y 2 a)))

-- ---- from the pixels that an element asks to the sets

joined_add : (t : Bool) (n m : ℕ) (f : ℕ → Bool) → joined t (n + m) f ≡ join t (joined t n f) (joined t m (λ j. f (n + j)))
unfolding joined
joined_add t n zero f = ap (λ (k : ℕ). joined t k f) (add-zero n) ∙ sym (join_unit t (joined t n f))
joined_add t n (suc m) f =
    ap (λ (k : ℕ). joined t k f) (add-suc n m) ∙ ap (λ (b : Bool). join t b (f (n + m))) (joined_add t n m f)
    ∙ join_assoc t (joined t n f) (joined t m (λ j. f (n + j))) (f (n + m))

joined_blocks : (t : Bool) (k : ℕ) (f : ℕ → Bool) → joined t k (λ a. joined t 5 (λ j. f (a * 5 + j))) ≡ joined t (k * 5) f
unfolding joined
joined_blocks t zero f = refl
joined_blocks t (suc k) f =
    ap (λ (b : Bool). join t b (joined t 5 (λ j. f (k * 5 + j)))) (joined_blocks t k f)
    ∙ sym (joined_add t (k * 5) 5 f) ∙ ap (λ (n : ℕ). joined t n f) (sym (suc-mul k 5))

joined-offsets : (t : Bool) (e n : ℕ) (p : Point → Bool)
    → joined t n (λ i. cond (bit e i) (p (offset 2 i)) (not t)) ≡ cond t (some_of p (offsets_below 2 e n)) (every_of p (offsets_below 2 e n))
unfolding joined offsets_below
joined-offsets true e zero p = refl
joined-offsets false e zero p = refl
joined-offsets t e (suc n) p = ap (λ (b : Bool). join t b (cond (bit e n) (p (offset 2 n)) (not t))) (joined-offsets t e n p) ∙ go t (bit e n)
  where
    l : List Point
    l = offsets_below 2 e n

    go : (t b : Bool)
        → join t (cond t (some_of p l) (every_of p l)) (cond b (p (offset 2 n)) (not t)) ≡ cond t (some_of p (cond b (offset 2 n ∷ l) l)) (every_of p (cond b (offset 2 n ∷ l) l))
    go true true = join_comm true (some_of p l) (p (offset 2 n))
    go true false = join_unit true (some_of p l)
    go false true = join_comm false (every_of p l) (p (offset 2 n))
    go false false = join_unit false (every_of p l)

-- a step by an offset, back in a dilation
stepped : Bool → Point → Point → Point
stepped true z b = z ⊞ minus b
stepped false z b = z ⊞ b

negated : Bool → ℤ → ℤ
negated true k = neg_ℤ k
negated false k = k

-- one coordinate of a step
step : (t : Bool) (x k : ℕ) → k < 5 → pos x +ℤ negated t (sub_ℕ k 2) ≡ sub_ℕ (x + turned t k) 2
unfolding negated
step true x k h = ap (λ (z : ℤ). pos x +ℤ z) (below5 (λ (k : ℕ). neg_ℤ (sub_ℕ k 2) ≡ sub_ℕ (4 - k) 2) refl refl refl refl refl k h) ∙ pos_sub x (4 - k) 2
step false x k h = pos_sub x k 2

sub_same : (a b c d : ℕ) → a + d ≡ c + b → sub_ℕ a b ≡ sub_ℕ c d
sub_same a b c d e = by (dec_lt a b)
  where
    by : Dec (a < b) → sub_ℕ a b ≡ sub_ℕ c d
    by (yes l) =
        let q : b - suc a ≡ d - suc c = omega arith in
        ap (λ (t : Bool). cond t (negsuc (b - suc a)) (pos (a - b))) (lt-ltb a b l) ∙ ap negsuc q
        ∙ sym (ap (λ (t : Bool). cond t (negsuc (d - suc c)) (pos (c - d))) (lt-ltb c d (omega arith)))
    by (no l) =
        let q : a - b ≡ c - d = omega arith in
        ap (λ (t : Bool). cond t (negsuc (b - suc a)) (pos (a - b))) (le-ltb a b (omega arith)) ∙ ap pos q
        ∙ sym (ap (λ (t : Bool). cond t (negsuc (d - suc c)) (pos (c - d))) (le-ltb c d (omega arith)))

stepped-at : (t : Bool) (x y a j : ℕ) → a < 5 → j < 5
    → at (sub_ℕ (x + (turned t j + 6)) 8) (sub_ℕ (y + turned t a) 2) ≡ stepped t (at (pos x) (pos y)) (offset 2 (a * 5 + j))
unfolding offset ◌⊞◌ minus stepped negated
stepped-at t x y a j ha hj =
    ap₂ at (sub_same (x + (turned t j + 6)) 8 (x + turned t j) 2 (omega arith) ∙ sym (step t x j hj)) (sym (step t y a ha))
    ∙ go t
    ∙ ap₂ (λ (u v : ℕ). stepped t (at (pos x) (pos y)) (at (sub_ℕ u 2) (sub_ℕ v 2))) (sym (digits_mod a hj)) (sym (digits_div a hj))
  where
    go : (t : Bool) → at (pos x +ℤ negated t (sub_ℕ j 2)) (pos y +ℤ negated t (sub_ℕ a 2)) ≡ stepped t (at (pos x) (pos y)) (at (sub_ℕ j 2) (sub_ℕ a 2))
    go true = refl
    go false = refl

-- what the element asks of a set at (x, y)
pub neighbours-set : (t : Bool) (e : ℕ) (S : Point → Bool) (x y : ℕ)
    → neighbours t e (λ X Y. S (at (sub_ℕ X 8) (sub_ℕ Y 2))) x y ≡ morphed t (offsets e) S (at (pos x) (pos y))
unfolding neighbours five_of offsets erode dilate stepped
neighbours-set t e S x y =
    joined_same t 5 (λ k. five_of t (e / 2 ^ (k * 5)) (λ X. S (at (sub_ℕ X 8) (sub_ℕ (y + turned t k) 2))) x) (λ a. joined t 5 (λ j. asks (a * 5 + j)))
    (λ a ha. joined_same t 5 (λ j. cond (bit (e / 2 ^ (a * 5)) j) (S (at (sub_ℕ (x + (turned t j + 6)) 8) (sub_ℕ (y + turned t a) 2))) (not t)) (λ j. asks (a * 5 + j))
    (λ j hj. ap₂ (λ (n : ℕ) (p : Point). cond (eqb (n % 2) 1) (S p) (not t)) (shr-shr e (a * 5) j) (stepped-at t x y a j ha hj)))
    ∙ joined_blocks t 5 asks ∙ joined-offsets t e 25 (λ b. S (stepped t (at (pos x) (pos y)) b)) ∙ go t
  where
    asks : ℕ → Bool
    asks i = cond (bit e i) (S (stepped t (at (pos x) (pos y)) (offset 2 i))) (not t)

    go : (t : Bool)
        → cond t (some_of (λ b. S (stepped t (at (pos x) (pos y)) b)) (offsets_below 2 e 25)) (every_of (λ b. S (stepped t (at (pos x) (pos y)) b)) (offsets_below 2 e 25))
        ≡ morphed t (offsets e) S (at (pos x) (pos y))
    go true = refl
    go false = refl
