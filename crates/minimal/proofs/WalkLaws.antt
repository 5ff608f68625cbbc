-- The walk: a step drops what the definition drops, and the counters stay the covers of the points left.
use mathlib.Core.Bool.{Bool, ◌&&◌, ◌||◌, cond, false, not, true}
use mathlib.Core.List.{List}
use mathlib.Core.Logic.{◌⊎◌, inl, inr}
use mathlib.Core.Path.{◌∙◌, ◌≡◌, ap, ap₂, refl, subst, sym}
use Prim.Native.Nat.{◌*◌, ◌+◌, ◌-◌, ◌<◌, ◌≤◌, suc, zero, ℕ}
use native.Mathlib.Nat.{add-zero}
use native.Mathlib.Numerals.{add-one}
use native.Mathlib.Omega.{arith}
use borrow.Author.Tests.{eq-eqb, ne_eqb}
use lib.Dec.{T, T_not, eqb, leb, leb→le, le→leb}
use lib.ListN.{get_or, length, length-set, set}
use lib.Seq.{ext_get_or}
use Rattle.morphology.specs.Labels.{place}
use Rattle.morphology.specs.Lists.{greatest, up_to}
use Rattle.morphology.specs.Minimal.{drop_at, drop_size, is_redundant, minimal_below, minimal_labels}
use Rattle.morphology.specs.Point.{Point}
use Rattle.morphology.proofs.CoverLaws.{in-up_to}
use Rattle.morphology.proofs.MinimalLaws.{Sub, minimal_sub, size_sub, sub-label}
use Rattle.morphology.proofs.RefusalLaws.{false_of}
use Rattle.morphology.proofs.TestLaws.{T_ext, all_in, all-out, and_l, and_r, decide, or_l, or-out, or_r}
use Rattle.minimal.specs.Bands.{ink_at}
use Rattle.minimal.specs.Covers.{Stays, counts, spread}
use Rattle.minimal.specs.Moves.{Twice, Within, below, hits}
use Rattle.minimal.specs.Sizes.{Shape, AllFit, Without}
use Rattle.minimal.specs.Walks.{StepDone, Walked}
use Rattle.minimal.proofs.CoverCountLaws.{all_twice, counters-drop, counts-length, drop_turn, minimal-start, minimal_turn, size-start, size_turn}
use Rattle.minimal.proofs.MoveLaws.{hits_at}
use Rattle.minimal.proofs.SizeLaws.{shape-hits, shape-within}

-- a map with fewer points
pub tame_sub : (W H : ℕ) (B : List Point) (m m' : List ℕ) → AllFit W H B m → Sub m' m → length m' ≡ length m → AllFit W H B m'
tame_sub W H B m m' t f e = record {
  places = e ∙ t.places;
  few = t.few;
  stays = λ i n h q. t.stays i n h (sub-label m' m f i n q);
}

module _ (W H r : ℕ) (B : List Point) (n a : ℕ) (plane : List ℕ) (s : Shape W H r B n a plane) (m : List ℕ) (t : AllFit W H B m) (i : ℕ) (h : i < W * H) where
  abbrev moved : ℕ → Bool
  moved = below (W * H) (ink_at W H plane)

  stays : get_or m i 0 ≡ n + 1 → Stays W H B n i
  stays e = t.stays i n h (e ∙ add-one n)

  module _ (c : List ℕ) (q : c ≡ counts W H B m) where
    length-counts : length c ≡ W * H
    length-counts = ap length q ∙ counts-length W H B m

    pub step-within : get_or m i 0 ≡ n + 1 → Within (below (W * H) (ink_at W H plane)) i a (length c)
    step-within e = subst (λ (k : ℕ). (j : ℕ) → T (moved j) → (a ≤ i + j) × (i + j < a + k)) (sym length-counts) (shape-within W H r B n a plane s i (stays e))

    -- ---- the test

    twice_in : get_or m i 0 ≡ n + 1 → Twice moved i a c → all_twice W H B n i c ≡ true
    twice_in e w = T_ext {b = true} (λ u. tt) (λ u. all_in test (up_to (W * H)) (λ x k. by x (decide (D x))))
      where
        D : ℕ → Bool
        D x = spread W B n i (place W x)

        test : ℕ → Bool
        test x = not (D x) || leb 2 (get_or c x 0)

        by : (x : ℕ) → T (D x) ⊎ T (not (D x)) → T (test x)
        by x (inr u) = or_l (not (D x)) (leb 2 (get_or c x 0)) u
        by x (inl u) =
            let hit = subst T (sym (shape-hits W H r B n a plane s i x (stays e))) u in
            let l = leb→le i (x + a) (and_l (leb i (x + a)) (moved (x + a - i)) hit) in
            let z : i + (x + a - i) - a ≡ x = omega arith in
            or_r (not (D x)) (leb 2 (get_or c x 0))
            (le→leb 2 (get_or c x 0) (subst (λ (y : ℕ). 2 ≤ get_or c y 0) z (w (x + a - i) (and_r (leb i (x + a)) (moved (x + a - i)) hit))))

    twice-out : get_or m i 0 ≡ n + 1 → T (all_twice W H B n i c) → Twice moved i a c
    twice-out e w k u =
        let g = shape-within W H r B n a plane s i (stays e) k u in
        let x = i + k - a in
        let l : i + k - a < W * H = omega (arith, g.0, g.1) in
        let d = subst T (sym (hits_at moved i a k g.0) ∙ shape-hits W H r B n a plane s i x (stays e)) u in
        by x d (or-out (not (D x)) (leb 2 (get_or c x 0)) (all-out (λ y. not (D y) || leb 2 (get_or c y 0)) w (in-up_to (W * H) x l)))
      where
        D : ℕ → Bool
        D x = spread W B n i (place W x)

        by : (x : ℕ) → T (D x) → T (not (D x)) ⊎ T (leb 2 (get_or c x 0)) → 2 ≤ get_or c x 0
        by x d (inl v) = absurd (T_not (D x) v d)
        by x d (inr v) = leb→le 2 (get_or c x 0) v

    -- ---- the step

    goes : Bool
    goes = eqb (get_or m i 0) (suc n) && all_twice W H B n i c

    drops : drop_at W H B n m i ≡ cond (eqb (get_or m i 0) (suc n) && all_twice W H B n i c) (set m i 0) m
    drops = drop_turn W H B n i m h (λ e. t.stays i n h e) ∙ ap (λ (d : List ℕ). cond (eqb (get_or m i 0) (suc n) && all_twice W H B n i d) (set m i 0) m) (sym q)

    pub record Next (m' c' : List ℕ) : Type 0 where
      pub labels : m' ≡ drop_at W H B n m i
      pub counters : c' ≡ counts W H B m'
      pub size : length m' ≡ length m

    pub step_next : get_or m i 0 ≡ n + 1 → (m' c' : List ℕ) → StepDone W H a i plane m c m' c' → Next m' c'
    step_next y m' c' d = go d.gone refl
      where
        at : (x : ℕ) → x < W * H → get_or c' x 0 ≡ get_or c x 0 - cond (d.gone && hits moved i a x) 1 0
        at x l = d.counters.places x (subst (λ (k : ℕ). x < k) (sym length-counts) l)

        size : length c' ≡ W * H
        size = d.counters.size ∙ length-counts

        go : (b : Bool) → d.gone ≡ b → Next m' c'
        go true e =
            let v : get_or m i 0 ≡ suc n = y ∙ add-one n in
            let k : m' ≡ set m i 0 = d.labels ∙ ap (λ (b : Bool). cond b (set m i 0) m) e in
            record {
              labels = k ∙ sym (drops ∙ ap₂ (λ (x z : Bool). cond (x && z) (set m i 0) m) (eq-eqb (get_or m i 0) (suc n) v) (twice_in y (d.tells.yes e)));
              counters = ext_get_or 0 c' (counts W H B (set m i 0)) (size ∙ sym (counts-length W H B (set m i 0))) (λ x l.
                  let hx : x < W * H = subst (λ (j : ℕ). x < j) size l in
                  at x hx ∙ ap₂ (λ (b z : Bool). get_or c x 0 - cond (b && z) 1 0) e (shape-hits W H r B n a plane s i x (stays y))
                  ∙ ap (λ (l : List ℕ). get_or l x 0 - cond (spread W B n i (place W x)) 1 0) q ∙ sym (counters-drop W H B m i n x h hx v))
                  ∙ ap (counts W H B) (sym k);
              size = ap length k ∙ length-set m i 0;
            }
        go false e =
            let k : m' ≡ m = d.labels ∙ ap (λ (b : Bool). cond b (set m i 0) m) e in
            let off : (eqb (get_or m i 0) (suc n) && all_twice W H B n i c) ≡ false =
            false_of (eqb (get_or m i 0) (suc n) && all_twice W H B n i c) (λ u.
            d.tells.no e (twice-out y (and_r (eqb (get_or m i 0) (suc n)) (all_twice W H B n i c) u))) in
            let same : c' ≡ c =
            ext_get_or 0 c' c d.counters.size (λ x l.
            let hx : x < W * H = subst (λ (j : ℕ). x < j) size l in
            let z : get_or c x 0 - 0 ≡ get_or c x 0 = omega arith in
            at x hx ∙ ap (λ (b : Bool). get_or c x 0 - cond (b && hits moved i a x) 1 0) e ∙ z) in
            record {
              labels = k ∙ sym (drops ∙ ap (λ (b : Bool). cond b (set m i 0) m) off);
              counters = same ∙ q ∙ ap (counts W H B) (sym k);
              size = ap length k;
            }

-- ---- a size, place by place

module _ (W H : ℕ) (B : List Point) (n : ℕ) (m₀ : List ℕ) where
  pub size_begin : m₀ ≡ drop_size W H B n (up_to 0) m₀
  size_begin = sym (size-start W H B n m₀)

  pub size_more : (i : ℕ) (m m' : List ℕ) → m ≡ drop_size W H B n (up_to i) m₀ → m' ≡ drop_at W H B n m i → m' ≡ drop_size W H B n (up_to (i + 1)) m₀
  size_more i m m' q e =
      e ∙ ap (λ (l : List ℕ). drop_at W H B n l i) q ∙ sym (size_turn W H B n i m₀) ∙ ap (λ (k : ℕ). drop_size W H B n (up_to k) m₀) (sym (add-one i))

  pub size-tame : (i : ℕ) (m : List ℕ) → AllFit W H B m₀ → m ≡ drop_size W H B n (up_to i) m₀ → length m ≡ length m₀ → AllFit W H B m
  size-tame i m t q e = tame_sub W H B m₀ m t (subst (λ (l : List ℕ). Sub l m₀) (sym q) (size_sub W H B n (up_to i) m₀)) e

  -- places without a point of the size
  drop-idle : (i : ℕ) (m : List ℕ) → (get_or m i 0 ≡ n + 1 → ⊥) → drop_at W H B n m i ≡ m
  unfolding drop_at
  drop-idle i m f = ap (λ (b : Bool). cond (b && is_redundant W H B n m i) (set m i 0) m) (ne_eqb (get_or m i 0) (suc n) (λ q. f (q ∙ sym (add-one n))))

  gap : (i d : ℕ) (m : List ℕ) → Without (n + 1) i (i + d) m → m ≡ drop_size W H B n (up_to i) m₀ → m ≡ drop_size W H B n (up_to (i + d)) m₀
  gap i zero m f q = q ∙ ap (λ (k : ℕ). drop_size W H B n (up_to k) m₀) (sym (add-zero i))
  gap i (suc d) m f q =
      let e : i + d + 1 ≡ i + suc d = omega arith in
      size_more (i + d) m m (gap i d m (λ j lo hi. f j lo (omega arith)) q) (sym (drop-idle (i + d) m (f (i + d) (omega arith) (omega arith))))
      ∙ ap (λ (k : ℕ). drop_size W H B n (up_to k) m₀) e

  pub size_gap : (i e : ℕ) (m : List ℕ) → i ≤ e → Without (n + 1) i e m → m ≡ drop_size W H B n (up_to i) m₀ → m ≡ drop_size W H B n (up_to e) m₀
  size_gap i e m h f q =
      let z : i + (e - i) ≡ e = omega arith in
      gap i (e - i) m (λ j lo hi. f j lo (omega arith)) q ∙ ap (λ (k : ℕ). drop_size W H B n (up_to k) m₀) z

-- ---- size by size

module _ (W H : ℕ) (B : List Point) (m₀ : List ℕ) where
  pub below_begin : m₀ ≡ minimal_below 0 W H B m₀
  below_begin = sym (minimal-start W H B m₀)

  pub below_more : (n : ℕ) (m m' c' : List ℕ) → m ≡ minimal_below n W H B m₀ → Walked W H B n m m' c' → m' ≡ minimal_below (n + 1) W H B m₀
  below_more n m m' c' q w =
      w.labels ∙ ap (drop_size W H B n (up_to (W * H))) q ∙ sym (minimal_turn W H B n m₀) ∙ ap (λ (k : ℕ). minimal_below k W H B m₀) (sym (add-one n))

  pub below-tame : (n : ℕ) (m : List ℕ) → AllFit W H B m₀ → m ≡ minimal_below n W H B m₀ → length m ≡ length m₀ → AllFit W H B m
  below-tame n m t q e = tame_sub W H B m₀ m t (subst (λ (l : List ℕ). Sub l m₀) (sym q) (minimal_sub W H B n m₀)) e

  -- all sizes up to the largest label's
  pub below_last : (n : ℕ) (m : List ℕ) → n ≡ greatest m₀ → m ≡ minimal_below n W H B m₀ → m ≡ minimal_labels W H B m₀
  unfolding minimal_labels
  below_last n m e q = q ∙ ap (λ (k : ℕ). minimal_below k W H B m₀) e
