-- The box test says exactly that nB moved to p lies on the frame.
use mathlib.Core.Bool.{Bool, cond, false, true}
use mathlib.Core.List.Memᴰ
use mathlib.Core.List.{List, Memᴰ, [], ◌∷◌}
use mathlib.Core.Logic.{◌⊎◌, inl, inr}
use mathlib.Core.Path.{◌∙◌, ◌≡◌, ap, refl, subst, sym}
use Prim.Native.Nat.{◌*◌, ◌+◌, ◌-◌, ◌<◌, ◌≤◌, max, suc, zero, zero-le, ℕ}
use native.Mathlib.Nat.{mul-zero, suc-mul}
use native.Mathlib.Decide.{dec_lt}
use native.Mathlib.Omega.{arith}
use borrow.Author.Tests.{le-ltb, ltb-true}
use lib.Dec.{T, leb, leb→le, le→leb, ltb, ltb→lt, lt→ltb}
use lib.IntN.{+ℤ_idr, ◌*ℤ◌, ◌+ℤ◌, negsuc, pos, sub_ℕ, ℤ}
use Rattle.morphology.specs.Extent.{above, below, boxed, extent, fits}
use Rattle.morphology.specs.Image.{inside, on_frame}
use Rattle.morphology.specs.Lists.{every_of, greatest}
use Rattle.morphology.specs.Morphology.{times}
use Rattle.morphology.specs.Point.{Point, ◌⊞◌, origin}
use Rattle.morphology.proofs.FrameLaws.{minus_far, scaled, scaled_in}
use Rattle.morphology.proofs.MorphologyLaws.{sum-out}
use Rattle.morphology.proofs.SubsetLaws.{origin-times}
use Rattle.morphology.proofs.TestLaws.{T_ext, all_in, all-out, and_in, and_l, and_r}

-- ---- the largest

pub extent_le : (f : Point → ℕ) {b : Point} (B : List Point) → Memᴰ b B → f b ≤ extent f B
unfolding extent greatest
extent_le f [] m = absurd (Memᴰ.not-nil m)
extent_le f {b} (x ∷ B) (Memᴰ.head e) = let q : f b ≡ f x = ap f e in omega arith
extent_le f {b} (x ∷ B) (Memᴰ.tail m) = let q = extent_le f B m in omega arith

-- it is 0 or a point's
extent_of_lem : (f : Point → ℕ) (B : List Point) → (extent f B ≡ 0) ⊎ ((b : Point) × Memᴰ b B × (extent f B ≡ f b))
unfolding extent greatest
extent_of_lem f [] = inl refl
extent_of_lem f (x ∷ B) = go (extent_of_lem f B) (dec_lt (extent f B) (f x))
  where
    go : (extent f B ≡ 0) ⊎ ((b : Point) × Memᴰ b B × (extent f B ≡ f b)) → Dec (extent f B < f x)
        → (max (extent f B) (f x) ≡ 0) ⊎ ((b : Point) × Memᴰ b (x ∷ B) × (max (extent f B) (f x) ≡ f b))
    go r (yes h) = inr (x, Memᴰ.head refl, omega arith)
    go (inl e) (no h) = inl (omega arith)
    go (inr r) (no h) = let q = r.2 in inr (r.0, Memᴰ.tail r.1, omega arith)

-- ---- sums

below_sub : (a b : ℕ) → below (sub_ℕ a b) ≤ b
below_sub a b = go (ltb a b) refl
  where
    go : (t : Bool) → ltb a b ≡ t → below (cond t (negsuc (b - suc a)) (pos (a - b))) ≤ b
    go true q = let h = ltb-true a b q in omega arith
    go false q = zero-le

above_sub : (a b : ℕ) → above (sub_ℕ a b) ≤ a
above_sub a b = go (ltb a b)
  where
    go : (t : Bool) → above (cond t (negsuc (b - suc a)) (pos (a - b))) ≤ a
    go true = zero-le
    go false = omega arith

below_add : (u v : ℤ) → below (u +ℤ v) ≤ below u + below v
below_add (pos a) (pos b) = zero-le
below_add (pos a) (negsuc b) = omega (arith, below_sub a (suc b))
below_add (negsuc a) (pos b) = omega (arith, below_sub b (suc a))
below_add (negsuc a) (negsuc b) = omega arith

above_add : (u v : ℤ) → above (u +ℤ v) ≤ above u + above v
above_add (pos a) (pos b) = omega arith
above_add (pos a) (negsuc b) = omega (arith, above_sub a (suc b))
above_add (negsuc a) (pos b) = omega (arith, above_sub b (suc a))
above_add (negsuc a) (negsuc b) = zero-le

-- ---- one axis

-- a measure of offsets that sums do not exceed: nB goes no further than n times B
module _ (f : Point → ℕ) (zero-at : f origin ≡ 0) (add : (a b : Point) → f (a ⊞ b) ≤ f a + f b) (B : List Point) where
  times_le : (n : ℕ) {c : Point} → Memᴰ c (times B n) → f c ≤ n * extent f B
  unfolding times
  times_le zero {c} m = let q : f c ≡ 0 = ap f (Memᴰ.eq_of_singleton m) ∙ zero-at in omega arith
  times_le (suc n) {c} m =
      let r = sum-out (times B n) B m in
      let q : f c ≡ f (r.0 ⊞ r.1) = ap f r.4 in
      omega (arith, add r.0 r.1, times_le n r.2, extent_le f B r.3, suc-mul n (extent f B))

-- a coordinate that has room stays on the side
inside_add : (W x : ℕ) (d : ℤ) → below d ≤ x → x + above d < W → T (inside W (pos x +ℤ d))
inside_add W x (pos a) l h = lt→ltb (x + a) W h
inside_add W x (negsuc a) l h =
    subst T (ap (λ (t : Bool). inside W (cond t (negsuc (suc a - suc x)) (pos (x - suc a)))) (sym (le-ltb x (suc a) l))) (lt→ltb (x - suc a) W (omega arith))

-- and one that stays has room, n times over
room-below : (W x n : ℕ) (d : ℤ) → T (inside W (pos x +ℤ (pos n *ℤ d))) → n * below d ≤ x
room-below W x n (pos a) t = omega (arith, mul-zero n)
room-below W x n (negsuc a) t = go (dec_lt x (n * suc a))
  where
    go : Dec (x < n * suc a) → n * suc a ≤ x
    go (yes h) = absurd (minus_far x (n * suc a) W h t)
    go (no h) = omega arith

room-above : (W x n : ℕ) (d : ℤ) → x < W → T (inside W (pos x +ℤ (pos n *ℤ d))) → x + n * above d < W
room-above W x n (pos a) h t = ltb→lt (x + n * a) W t
room-above W x n (negsuc a) h t = omega (arith, mul-zero n)

-- one axis of the law: the coordinate of a point, and the side
module _ (co : Point → ℤ) (co-origin : co origin ≡ pos 0) (co-add : (a b : Point) → co (a ⊞ b) ≡ co a +ℤ co b) (co-scaled : (n : ℕ) (b : Point) → co (scaled n b) ≡ pos n *ℤ co b)
    (W : ℕ) (B : List Point) (ob : Memᴰ origin B) (n : ℕ) where
  lo : ℕ
  lo = extent (λ b. below (co b)) B

  hi : ℕ
  hi = extent (λ b. above (co b)) B

  axis-to : (p : ℤ) → ((b : Point) → Memᴰ b (times B n) → T (inside W (p +ℤ co b))) → T (fits W (n * lo) (n * hi) p)
  unfolding lo hi
  axis-to (negsuc x) f = by (subst (λ (d : ℤ). T (inside W (negsuc x +ℤ d))) co-origin (f origin (origin-times B ob n)))
    where
      by : T (inside W (negsuc x +ℤ pos 0)) → ⊥
      by t = subst (λ (k : ℤ). T (inside W k)) (+ℤ_idr (negsuc x)) t
  axis-to (pos x) f = and_in (leb (n * lo) x) (ltb (x + n * hi) W) (le→leb (n * lo) x (low (extent_of_lem (λ b. below (co b)) B))) (lt→ltb (x + n * hi) W (high (extent_of_lem (λ b. above (co b)) B)))
    where
      here : x < W
      here = omega (arith, ltb→lt (x + 0) W (subst (λ (d : ℤ). T (inside W (pos x +ℤ d))) co-origin (f origin (origin-times B ob n))))

      far : (b : Point) → Memᴰ b B → T (inside W (pos x +ℤ (pos n *ℤ co b)))
      far b m = subst (λ (d : ℤ). T (inside W (pos x +ℤ d))) (co-scaled n b) (f (scaled n b) (scaled_in B b m n))

      low : (lo ≡ 0) ⊎ ((b : Point) × Memᴰ b B × (lo ≡ below (co b))) → n * lo ≤ x
      low (inl e) = subst (λ (k : ℕ). n * k ≤ x) (sym e) (omega (arith, mul-zero n))
      low (inr r) = subst (λ (k : ℕ). n * k ≤ x) (sym r.2) (room-below W x n (co r.0) (far r.0 r.1))

      high : (hi ≡ 0) ⊎ ((b : Point) × Memᴰ b B × (hi ≡ above (co b))) → x + n * hi < W
      high (inl e) = subst (λ (k : ℕ). x + n * k < W) (sym e) (omega (arith, mul-zero n, here))
      high (inr r) = subst (λ (k : ℕ). x + n * k < W) (sym r.2) (room-above W x n (co r.0) here (far r.0 r.1))

  axis_of : (p : ℤ) → T (fits W (n * lo) (n * hi) p) → (b : Point) → Memᴰ b (times B n) → T (inside W (p +ℤ co b))
  unfolding lo hi
  axis_of (negsuc x) t b m = absurd t
  axis_of (pos x) t b m =
      let l = leb→le (n * lo) x (and_l (leb (n * lo) x) (ltb (x + n * hi) W) t) in
      let h = ltb→lt (x + n * hi) W (and_r (leb (n * lo) x) (ltb (x + n * hi) W) t) in
      let below-b = times_le (λ b. below (co b)) (ap below co-origin) (λ a b. subst (λ (d : ℤ). below d ≤ below (co a) + below (co b)) (sym (co-add a b)) (below_add (co a) (co b))) B n m in
      let above-b = times_le (λ b. above (co b)) (ap above co-origin) (λ a b. subst (λ (d : ℤ). above d ≤ above (co a) + above (co b)) (sym (co-add a b)) (above_add (co a) (co b))) B n m in
      inside_add W x (co b) (omega arith) (omega arith)

-- ---- the box

pub box_exact : (W H : ℕ) (B : List Point) → Memᴰ origin B → (n : ℕ) (p : Point) → every_of (λ b. on_frame W H (p ⊞ b)) (times B n) ≡ boxed W H B n p
unfolding boxed ◌⊞◌ origin scaled lo hi
box_exact W H B ob n p =
    let fx = fits W (n * extent (λ b. below b.x) B) (n * extent (λ b. above b.x) B) p.x in
    let fy = fits H (n * extent (λ b. below b.y) B) (n * extent (λ b. above b.y) B) p.y in
    T_ext
    (λ t.
    and_in fx fy
    (axis-to (λ b. b.x) refl (λ a b. refl) (λ n b. refl) W B ob n p.x (λ b m. and_l (inside W (p.x +ℤ b.x)) (inside H (p.y +ℤ b.y)) (all-out (λ b. on_frame W H (p ⊞ b)) t m)))
    (axis-to (λ b. b.y) refl (λ a b. refl) (λ n b. refl) H B ob n p.y (λ b m. and_r (inside W (p.x +ℤ b.x)) (inside H (p.y +ℤ b.y)) (all-out (λ b. on_frame W H (p ⊞ b)) t m))))
    (λ t. all_in (λ b. on_frame W H (p ⊞ b)) (times B n) (λ b m.
    and_in (inside W (p.x +ℤ b.x)) (inside H (p.y +ℤ b.y))
    (axis_of (λ b. b.x) refl (λ a b. refl) (λ n b. refl) W B ob n p.x (and_l fx fy t) b m)
    (axis_of (λ b. b.y) refl (λ a b. refl) (λ n b. refl) H B ob n p.y (and_r fx fy t) b m)))
