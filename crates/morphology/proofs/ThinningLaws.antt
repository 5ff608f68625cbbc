-- Hits lie in the image and in the frame's interior; a pass of thinning only removes, leaves the edge, and thinning ends.
use mathlib.Core.Bool.{Bool, ◌&&◌, and-true, cond, false, not, true}
use mathlib.Core.List.{List, Memᴰ, [], ◌∷◌}
use mathlib.Core.Logic.{◌⊎◌, inl, inr}
use mathlib.Core.Path.{◌∙◌, ◌≡◌, ap, fun_ext, refl, subst, sym}
use Prim.Native.Nat.{◌+◌, ◌<◌, ◌^◌, ◌≤◌, suc, zero, ℕ}
use native.Mathlib.Nat.{le_refl}
use native.Mathlib.Omega.{arith}
use borrow.Author.Tests.{eq-eqb, eqb-false, eqb-true}
use lib.Dec.{T, eqb, leb, leb→le, lit<, ltb, ltb→lt}
use lib.IntN.{negsuc, pos, ℤ}
use Rattle.morphology.specs.Element.{bit, is_mask, mask_offsets, offset, offsets_below}
use Rattle.morphology.specs.Extent.{boxed, extent, fits}
use Rattle.morphology.specs.Image.{image_set, pack}
use Rattle.morphology.specs.Labels.{area, places}
use Rattle.morphology.specs.Lists.{count_of, every_of, greatest, up_to}
use Rattle.morphology.specs.Morphology.{minkowski, times}
use Rattle.morphology.specs.Point.{Point, ◌⊞◌, origin}
use Rattle.morphology.specs.Thinning.{Thinned, golay_l, hit, interior, thin_pass, thin_passes, thin_step}
use Rattle.morphology.proofs.ElementLaws.{in-below}
use Rattle.morphology.proofs.ExtentLaws.{box_exact}
use Rattle.morphology.proofs.FrameLaws.{OnFrame}
use Rattle.morphology.proofs.ImageLaws.{image_on, image-pack}
use Rattle.morphology.proofs.LabelLaws.{on-places}
use Rattle.morphology.proofs.MorphologyLaws.{◌⊆◌, set_ext, ⊆_of_eq}
use Rattle.morphology.proofs.PointLaws.{unit}
use Rattle.morphology.proofs.TestLaws.{T_ext, all-out, and_l, and_r}

-- ---- the interior

-- it is the frame without its first and last column, its first and last row
pub interior_box : (W H : ℕ) (z : Point) → interior W H z ≡ (fits W 1 1 z.x && fits H 1 1 z.y)
unfolding interior boxed extent greatest offset offsets_below origin minkowski times ◌⊞◌
interior_box W H z = box_exact W H (mask_offsets 511) (in-below 1 511 9 4 (lit< tt) tt) 1 z

-- a frame of fewer than three columns or rows has none
pub narrow-interior : (W H : ℕ) → (W < 3) ⊎ (H < 3) → (z : Point) → interior W H z ≡ false
narrow-interior W H n z = T_ext (λ t. none (subst T (interior_box W H z) t)) absurd
  where
    room : (N : ℕ) (k : ℤ) → T (fits N 1 1 k) → 3 ≤ N
    room N (pos x) t = omega (arith, leb→le 1 x (and_l (leb 1 x) (ltb (x + 1) N) t), ltb→lt (x + 1) N (and_r (leb 1 x) (ltb (x + 1) N) t))
    room N (negsuc x) t = absurd t

    none : T (fits W 1 1 z.x && fits H 1 1 z.y) → ⊥
    none t = by n (room W z.x (and_l (fits W 1 1 z.x) (fits H 1 1 z.y) t)) (room H z.y (and_r (fits W 1 1 z.x) (fits H 1 1 z.y) t))
      where
        by : (W < 3) ⊎ (H < 3) → 3 ≤ W → 3 ≤ H → ⊥
        by (inl l) a b = omega arith
        by (inr l) a b = omega arith

-- ---- hits

-- what a mask asks at a point, of the interior or not
abbrev pub asked : ℕ × ℕ → (Point → Bool) → Point → Bool
asked m X z = every_of (λ b. X (z ⊞ b)) (mask_offsets m.0) && every_of (λ b. not (X (z ⊞ b))) (mask_offsets m.1)

-- the centre of an accepted mask is foreground, so that what is hit was there
mask_centre : (m : ℕ × ℕ) → T (is_mask m) → Memᴰ origin (mask_offsets m.0)
unfolding is_mask offset origin
mask_centre m t =
    let overlap = every_of (λ i. not (bit m.0 i && bit m.1 i)) (up_to 9) in
    in-below 1 m.0 9 4 (lit< tt) (and_l (bit m.0 4) overlap (and_r (ltb m.0 (2 ^ 9) && ltb m.1 (2 ^ 9)) (bit m.0 4 && overlap) t))

pub hit-part : (W H : ℕ) (m : ℕ × ℕ) → T (is_mask m) → (X : Point → Bool) → hit W H m X ⊆ X
unfolding hit
hit-part W H m t X z u =
    let fg = every_of (λ b. X (z ⊞ b)) (mask_offsets m.0) in
    subst (λ (y : Point). T (X y)) (unit z) (all-out (λ b. X (z ⊞ b)) (and_l fg _ (and_r (interior W H z) (asked m X z) u)) (mask_centre m t))

-- nothing else is hit
pub edge-hit : (W H : ℕ) (m : ℕ × ℕ) (X : Point → Bool) (z : Point) → interior W H z ≡ false → hit W H m X z ≡ false
unfolding hit
edge-hit W H m X z e = ap (λ (b : Bool). b && asked m X z) e

-- ---- counts of a part

pub count-part : {A : Type 0} (p q : A → Bool) (l : List A) → ((a : A) → T (p a) → T (q a)) → count_of p l ≤ count_of q l
unfolding count_of
count-part p q [] f = le_refl 0
count-part p q (a ∷ l) f = go (p a) (q a) (f a) (count-part p q l f)
  where
    go : (b c : Bool) → (T b → T c) → count_of p l ≤ count_of q l → cond b 1 0 + count_of p l ≤ cond c 1 0 + count_of q l
    go true true g h = omega arith
    go true false g h = absurd (g tt)
    go false true g h = omega arith
    go false false g h = omega arith

-- a part with the same count is the whole
pub count-whole : {A : Type 0} (p q : A → Bool) {a : A} (l : List A) → ((b : A) → T (p b) → T (q b)) → count_of p l ≡ count_of q l → Memᴰ a l → T (q a)
    → T (p a)
unfolding count_of
count-whole p q [] f e k t = elim k [ ]
count-whole p q {a} (x ∷ l) f e (Memᴰ.head r) t =
    subst (λ (b : _). T (p b)) (sym r) (go (p x) (q x) e (subst (λ (b : _). T (q b)) r t))
  where
    go : (b c : Bool) → cond b 1 0 + count_of p l ≡ cond c 1 0 + count_of q l → T c → T b
    go true c h u = tt
    go false true h u = absurd (omega (arith, h, count-part p q l f))
    go false false h u = u
count-whole p q {a} (x ∷ l) f e (Memᴰ.tail k) t = count-whole p q l f (go (p x) (q x) (f x) e) k t
  where
    go : (b c : Bool) → (T b → T c) → cond b 1 0 + count_of p l ≡ cond c 1 0 + count_of q l → count_of p l ≡ count_of q l
    go true true g h = omega arith
    go true false g h = absurd (g tt)
    go false true g h = absurd (omega (arith, h, count-part p q l f))
    go false false g h = omega arith

module _ (W H : ℕ) where
  pub area-part : (X Y : Point → Bool) → X ⊆ Y → area W H X ≤ area W H Y
  unfolding area
  area-part X Y f = count-part X Y (places W H) f

  pub area-whole : (X Y : Point → Bool) → OnFrame W H Y → X ⊆ Y → area W H X ≡ area W H Y → X ≡ Y
  unfolding area
  area-whole X Y on f e = set_ext f (λ z t. count-whole X Y (places W H) f e (on-places W H Y on z t) t)

  -- ---- steps and passes

  -- what a step leaves
  pub image_step : (m : ℕ × ℕ) (s : List ℕ) → image_set W H (thin_step W H m s) ≡ (λ z. image_set W H s z && not (hit W H m (image_set W H s) z))
  unfolding thin_step
  image_step m s =
      let X = image_set W H s in
      let Y : Point → Bool = λ z. X z && not (hit W H m X z) in
      let part : Y ⊆ X = λ z t. and_l (X z) (not (hit W H m X z)) t in
      image-pack W H Y (record { across = λ p t. (image_on W H s).across p (part p t); down = λ p t. (image_on W H s).down p (part p t) })

  pub step_part : (m : ℕ × ℕ) (s : List ℕ) → image_set W H (thin_step W H m s) ⊆ image_set W H s
  step_part m s z t = and_l (image_set W H s z) (not (hit W H m (image_set W H s) z)) (⊆_of_eq (image_step m s) z t)

  pub pass-part : (ms : List (ℕ × ℕ)) (s : List ℕ) → image_set W H (thin_pass W H ms s) ⊆ image_set W H s
  unfolding thin_pass
  pass-part [] s z t = t
  pass-part (m ∷ ms) s z t = step_part m s z (pass-part ms (thin_step W H m s) z t)

  -- a pass reads the set alone
  pass_same : (m : ℕ × ℕ) (ms : List (ℕ × ℕ)) (s t : List ℕ) → image_set W H s ≡ image_set W H t → thin_pass W H (m ∷ ms) s ≡ thin_pass W H (m ∷ ms) t
  unfolding thin_pass thin_step
  pass_same m ms s t e = ap (λ (X : Point → Bool). thin_pass W H ms (pack W H (λ z. X z && not (hit W H m X z)))) e

  abbrev pub pass : List ℕ → List ℕ
  pass s = thin_pass W H golay_l s

  abbrev pub points : List ℕ → ℕ
  points s = area W H (image_set W H s)

  pub pass_le : (s : List ℕ) → points (pass s) ≤ points s
  pass_le s = area-part (image_set W H (pass s)) (image_set W H s) (pass-part golay_l s)

  -- a pass that removes nothing: the next one changes no byte
  pub idle_pass : (s : List ℕ) → points s ≡ points (pass s) → pass (pass s) ≡ pass s
  idle_pass s e = pass_same _ _ (pass s) s (area-whole (image_set W H (pass s)) (image_set W H s) (image_on W H s) (pass-part golay_l s) (sym e))

  -- ---- passes until one is idle

  -- what a pass s ends in, or the passes after it
  abbrev pub ends : List ℕ → Thinned → Bool → Thinned
  ends s r true = record { image = pass s; passes = 1 }
  ends s r false = record { image = r.image; passes = suc r.passes }

  pub passes-suc : (n : ℕ) (s : List ℕ) → thin_passes (suc n) W H s ≡ ends s (thin_passes n W H (pass s)) (eqb (points s) (points (pass s)))
  unfolding thin_passes
  passes-suc n s = go (eqb (points s) (points (pass s)))
    where
      go : (b : Bool)
          → ◌≡◌ {A = Thinned} (elim b [ true ↦ record { image = pass s; passes = 1 } | false ↦ record { image = (thin_passes n W H (pass s)).image; passes = suc (thin_passes n W H (pass s)).passes } ]) (ends s (thin_passes n W H (pass s)) b)
      go true = refl
      go false = refl

  -- a pass that is not idle removes a point
  pub less : (s : List ℕ) → eqb (points s) (points (pass s)) ≡ false → points (pass s) < points s
  less s q = let ne = eqb-false (points s) (points (pass s)) q in let le = pass_le s in omega arith

  -- passes past the number of points change nothing
  pub thin-enough : (n m : ℕ) (s : List ℕ) → points s ≤ n → n ≤ m → thin_passes (suc m) W H s ≡ thin_passes (suc n) W H s
  thin-enough zero m s h l = passes-suc m s ∙ go (eqb (points s) (points (pass s))) refl ∙ sym (passes-suc 0 s)
    where
      go : (b : Bool) → eqb (points s) (points (pass s)) ≡ b
          → ends s (thin_passes m W H (pass s)) (eqb (points s) (points (pass s))) ≡ ends s (thin_passes 0 W H (pass s)) (eqb (points s) (points (pass s)))
      go true q = ap (ends s (thin_passes m W H (pass s))) q ∙ sym (ap (ends s (thin_passes 0 W H (pass s))) q)
      go false q = absurd (omega (arith, less s q))
  thin-enough (suc n) zero s h l = absurd (omega arith)
  thin-enough (suc n) (suc m) s h l =
      passes-suc (suc m) s ∙ go (eqb (points s) (points (pass s))) refl (thin-enough n m (pass s)) ∙ sym (passes-suc (suc n) s)
    where
      go : (b : Bool) → eqb (points s) (points (pass s)) ≡ b
          → (points (pass s) ≤ n → n ≤ m → thin_passes (suc m) W H (pass s) ≡ thin_passes (suc n) W H (pass s))
          → ends s (thin_passes (suc m) W H (pass s)) (eqb (points s) (points (pass s))) ≡ ends s (thin_passes (suc n) W H (pass s)) (eqb (points s) (points (pass s)))
      go true q ih = ap (ends s (thin_passes (suc m) W H (pass s))) q ∙ sym (ap (ends s (thin_passes (suc n) W H (pass s))) q)
      go false q ih = ap (λ (r : Thinned). ends s r (eqb (points s) (points (pass s)))) (ih (omega (arith, less s q)) (omega arith))

  -- and after the last pass a further one changes no byte
  pub thin-idle : (n : ℕ) (s : List ℕ) → points s ≤ n → pass (thin_passes (suc n) W H s).image ≡ (thin_passes (suc n) W H s).image
  thin-idle zero s h = subst (λ (r : Thinned). pass r.image ≡ r.image) (sym (passes-suc 0 s)) (go (eqb (points s) (points (pass s))) refl)
    where
      go : (b : Bool) → eqb (points s) (points (pass s)) ≡ b
          → pass (ends s (thin_passes 0 W H (pass s)) b).image ≡ (ends s (thin_passes 0 W H (pass s)) b).image
      go true q = idle_pass s (eqb-true (points s) (points (pass s)) q)
      go false q = absurd (omega (arith, less s q))
  thin-idle (suc n) s h =
      subst (λ (r : Thinned). pass r.image ≡ r.image) (sym (passes-suc (suc n) s)) (go (eqb (points s) (points (pass s))) refl (thin-idle n (pass s)))
    where
      go : (b : Bool) → eqb (points s) (points (pass s)) ≡ b
          → (points (pass s) ≤ n → pass (thin_passes (suc n) W H (pass s)).image ≡ (thin_passes (suc n) W H (pass s)).image)
          → pass (ends s (thin_passes (suc n) W H (pass s)) b).image ≡ (ends s (thin_passes (suc n) W H (pass s)) b).image
      go true q ih = idle_pass s (eqb-true (points s) (points (pass s)) q)
      go false q ih = ih (omega (arith, less s q))

  -- ---- the edge

  -- what is not of the interior stays
  edge_step : (m : ℕ × ℕ) (s : List ℕ) (z : Point) → interior W H z ≡ false → image_set W H (thin_step W H m s) z ≡ image_set W H s z
  edge_step m s z e =
      let X = image_set W H s in
      ap (λ (Y : Point → Bool). Y z) (image_step m s) ∙ ap (λ (b : Bool). X z && not b) (edge-hit W H m X z e) ∙ and-true (X z)

  edge_pass : (ms : List (ℕ × ℕ)) (s : List ℕ) (z : Point) → interior W H z ≡ false → image_set W H (thin_pass W H ms s) z ≡ image_set W H s z
  unfolding thin_pass
  edge_pass [] s z e = refl
  edge_pass (m ∷ ms) s z e = edge_pass ms (thin_step W H m s) z e ∙ edge_step m s z e

  pub edge_kept : (n : ℕ) (s : List ℕ) (z : Point) → interior W H z ≡ false → image_set W H (thin_passes n W H s).image z ≡ image_set W H s z
  unfolding thin_passes
  edge_kept zero s z e = refl
  edge_kept (suc n) s z e =
      ap (λ (r : Thinned). image_set W H r.image z) (passes-suc n s) ∙ go (eqb (points s) (points (pass s))) (edge_kept n (pass s) z e)
    where
      go : (b : Bool) → image_set W H (thin_passes n W H (pass s)).image z ≡ image_set W H (pass s) z
          → image_set W H (ends s (thin_passes n W H (pass s)) b).image z ≡ image_set W H s z
      go true ih = edge_pass golay_l s z e
      go false ih = ih ∙ edge_pass golay_l s z e

  -- ---- an image without an interior

  -- steps and passes leave its bytes, so that the first pass is idle
  narrow_step : ((z : Point) → interior W H z ≡ false) → (m : ℕ × ℕ) (s : List ℕ) → pack W H (image_set W H s) ≡ s → thin_step W H m s ≡ s
  unfolding thin_step
  narrow_step n m s q =
      let X = image_set W H s in
      ap (pack W H) (fun_ext (λ z. ap (λ (b : Bool). X z && not b) (edge-hit W H m X z (n z)) ∙ and-true (X z))) ∙ q

  narrow_pass : ((z : Point) → interior W H z ≡ false) → (ms : List (ℕ × ℕ)) (s : List ℕ) → pack W H (image_set W H s) ≡ s → thin_pass W H ms s ≡ s
  unfolding thin_pass
  narrow_pass n [] s q = refl
  narrow_pass n (m ∷ ms) s q = ap (thin_pass W H ms) (narrow_step n m s q) ∙ narrow_pass n ms s q

  pub narrow-passes : ((z : Point) → interior W H z ≡ false) → (k : ℕ) (s : List ℕ) → pack W H (image_set W H s) ≡ s
      → thin_passes (suc k) W H s ≡ record { image = s; passes = 1 }
  narrow-passes n k s q =
      let p = narrow_pass n golay_l s q in
      passes-suc k s ∙ ap (ends s (thin_passes k W H (pass s))) (eq-eqb (points s) (points (pass s)) (sym (ap points p)))
      ∙ ap (λ (t : List ℕ). record { image = t; passes = 1 }) p
