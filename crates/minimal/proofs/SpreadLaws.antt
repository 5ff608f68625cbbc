-- In place indices a cover is any other of its size, moved by the distance of their points: both stay on the frame.
use mathlib.Core.Bool.{Bool, ◌&&◌, cond}
use mathlib.Core.List.{List}
use mathlib.Core.Path.{◌∙◌, ◌≡◌, ap, subst, sym}
use Prim.Native.Nat.{◌%◌, ◌*◌, ◌+◌, ◌-◌, ◌/◌, ◌<◌, ◌≤◌, suc, ℕ}
use native.Mathlib.Decide.{dec_lt}
use native.Mathlib.Nat.{add-mul, div-add-mod'}
use native.Mathlib.Omega.{arith}
use borrow.Author.Tests.{le-ltb, lt-ltb}
use lib.Dec.{T, leb, leb→le, le→leb}
use lib.IntN.{◌+ℤ◌, nat_abs, negsuc, pos, pos-ne-negsuc, sub_ℕ, ℤ}
use Rattle.morphology.specs.Labels.{place}
use Rattle.morphology.specs.Morphology.{times}
use Rattle.morphology.specs.Point.{Point, ◌⊞◌, same_point}
use Rattle.morphology.proofs.MorphologyLaws.{dilate_in, dilate-out}
use Rattle.morphology.proofs.PointLaws.{same_eq, same_refl}
use Rattle.morphology.proofs.TestLaws.{T_ext, and_in, and_l, and_r}
use Rattle.minimal.specs.Covers.{Stays, spread}
use Rattle.minimal.proofs.CoverCountLaws.{frame-place}

-- ---- integers

less : (X I k : ℕ) → pos X ≡ sub_ℕ I (suc k) → I ≡ X + suc k
less X I k p = by (dec_lt I (suc k))
  where
    by : Dec (I < suc k) → I ≡ X + suc k
    by (yes h) = absurd (pos-ne-negsuc X (suc k - suc I) (p ∙ ap (λ (b : Bool). cond b (negsuc (suc k - suc I)) (pos (I - suc k))) (lt-ltb I (suc k) h)))
    by (no h) =
        let g : suc k ≤ I = omega arith in
        let q : X ≡ I - suc k = ap nat_abs (p ∙ ap (λ (b : Bool). cond b (negsuc (suc k - suc I)) (pos (I - suc k))) (le-ltb I (suc k) g)) in
        omega arith

-- two numbers moved by the same integer
pos-moved : (X I Q A : ℕ) (c : ℤ) → pos X ≡ pos I +ℤ c → pos Q ≡ pos A +ℤ c → X + A ≡ I + Q
pos-moved X I Q A (pos k) p q =
    let a : X ≡ I + k = ap nat_abs p in
    let b : Q ≡ A + k = ap nat_abs q in
    omega arith
pos-moved X I Q A (negsuc k) p q =
    let a = less X I k p in
    let b = less Q A k q in
    omega arith

-- ---- places

-- two places moved by the same offset
pub place-moved : (W x i q a : ℕ) (c : Point) → place W x ≡ place W i ⊞ c → place W q ≡ place W a ⊞ c → x + a ≡ i + q
unfolding ◌⊞◌
place-moved W x i q a c e f =
    let across = pos-moved (x % W) (i % W) (q % W) (a % W) c.x (ap (λ (p : Point). p.x) e) (ap (λ (p : Point). p.x) f) in
    let down = pos-moved (x / W) (i / W) (q / W) (a / W) c.y (ap (λ (p : Point). p.y) e) (ap (λ (p : Point). p.y) f) in
    let rows : x / W * W + a / W * W ≡ i / W * W + q / W * W = sym (add-mul (x / W) (a / W) W) ∙ ap (λ (n : ℕ). n * W) down ∙ add-mul (i / W) (q / W) W in
    omega (arith, div-add-mod' x W, div-add-mod' a W, div-add-mod' i W, div-add-mod' q W)

module _ (W H : ℕ) (B : List Point) (n a i : ℕ) (sa : Stays W H B n a) (si : Stays W H B n i) where
  -- where a place of the one goes in the other
  pub spread_goes : (q : ℕ) → T (spread W B n a (place W q)) → (x : ℕ) × (x < W * H) × (x + a ≡ i + q) × T (spread W B n i (place W x))
  spread_goes q t =
      let r = dilate-out (times B n) (λ y. same_point y (place W a)) (place W q) t in
      let e : place W q ≡ place W a ⊞ r.1 = r.4 ∙ ap (λ (y : Point). y ⊞ r.1) (same_eq r.0 (place W a) r.2) in
      let f = frame-place W H B (place W i ⊞ r.1) (si r.1 r.3) in (
        f.0,
        f.1,
        place-moved W f.0 i q a r.1 (sym f.2) e,
        subst (λ (y : Point). T (spread W B n i y)) f.2
            (dilate_in (times B n) (λ y. same_point y (place W i)) (place W i) r.1 (same_refl (place W i)) r.3),
      )

-- the cover of i is that of a, moved
pub spread-moved : (W H : ℕ) (B : List Point) (n a i x : ℕ) → Stays W H B n a → Stays W H B n i
    → spread W B n i (place W x) ≡ (leb i (x + a) && spread W B n a (place W (x + a - i)))
spread-moved W H B n a i x sa si = T_ext to fro
  where
    back : (q : ℕ) → q + i ≡ a + x → T (spread W B n a (place W q)) → T (leb i (x + a) && spread W B n a (place W (x + a - i)))
    back q e t =
        let d : q ≡ x + a - i = omega arith in
        and_in (leb i (x + a)) (spread W B n a (place W (x + a - i))) (le→leb i (x + a) (omega arith)) (subst (λ (j : ℕ). T (spread W B n a (place W j))) d t)

    to : T (spread W B n i (place W x)) → T (leb i (x + a) && spread W B n a (place W (x + a - i)))
    to t = let r = spread_goes W H B n i a si sa x t in back r.0 r.2 r.3

    fro : T (leb i (x + a) && spread W B n a (place W (x + a - i))) → T (spread W B n i (place W x))
    fro t =
        let h = leb→le i (x + a) (and_l (leb i (x + a)) (spread W B n a (place W (x + a - i))) t) in
        let r = spread_goes W H B n a i sa si (x + a - i) (and_r (leb i (x + a)) (spread W B n a (place W (x + a - i))) t) in
        let e : r.0 ≡ x = omega (arith, r.2) in
        subst (λ (j : ℕ). T (spread W B n i (place W j))) e r.3
