-- The covers of a map's points, counted up size by size and place by place.
use mathlib.Core.Bool.{Bool, ◌&&◌, ◌||◌, false, not, true}
use mathlib.Core.List.{List}
use mathlib.Core.Logic.{◌≢◌, ◌⊎◌, inl, inr}
use mathlib.Core.Path.{◌∙◌, ◌≡◌, ap, ap₂, fun_ext, refl, subst, sym}
use Prim.Native.Nat.{◌*◌, ◌+◌, ◌-◌, ◌<◌, ◌≤◌, suc, zero, zero-le, ℕ}
use native.Mathlib.Decide.{dec_lt, ℕ_discrete}
use native.Mathlib.Nat.{add-zero}
use native.Mathlib.Numerals.{add-one}
use native.Mathlib.Omega.{arith}
use borrow.Author.Tests.{eq-eqb, le-leb, le-ltb, lt-leb, lt-ltb, ne_eqb}
use lib.Dec.{T, eqb, eqb→eq, leb, leb→le, le→leb, ltb, ltb→lt}
use lib.ListN.{get_or, length, replicate}
use lib.Seq.{ext_get_or}
use Rattle.morphology.specs.Labels.{place, raster}
use Rattle.morphology.specs.Lists.{count_of, greatest, tabulate, up_to}
use Rattle.morphology.specs.Minimal.{covers}
use Rattle.morphology.specs.Point.{Point}
use Rattle.morphology.proofs.CountLaws.{count_le, count_none, digit, get_or-greatest}
use Rattle.morphology.proofs.ImageLaws.{length-row}
use Rattle.morphology.proofs.LabelLaws.{get_or-place, length-raster}
use Rattle.morphology.proofs.PlaneLaws.{row_zeros}
use Rattle.morphology.proofs.TestLaws.{T_ext, and_l, and_r, or_l, or-out, or_r}
use Rattle.minimal.specs.Bands.{ink_at}
use Rattle.minimal.specs.Covers.{Stays, counts, cover}
use Rattle.minimal.specs.Moves.{CoverMoved, Open, below, hits}
use Rattle.minimal.specs.Sizes.{Counting, Shape, AllFit, Without, before, cover_to}
use Rattle.minimal.proofs.CoverCountLaws.{count-split, covers-dilate, covers-none}
use Rattle.minimal.proofs.SizeLaws.{shape-hits, shape-within}

-- ---- counts of the same

count_same : (p q : ℕ → Bool) (s n : ℕ) → ((j : ℕ) → j < s + n → p j ≡ q j) → count_of p (tabulate (λ j. j) s n) ≡ count_of q (tabulate (λ j. j) s n)
unfolding count_of tabulate
count_same p q s zero f = refl
count_same p q s (suc n) f =
    ap₂ (λ (a b : ℕ). a + b) (ap digit (f s (omega arith))) (count_same p q (suc s) n (λ j h. f j (omega arith)))

-- ---- which points are counted

later : (j i : ℕ) → j ≢ i → ltb j (i + 1) ≡ ltb j i
later j i h = by (dec_lt j i)
  where
    by : Dec (j < i) → ltb j (i + 1) ≡ ltb j i
    by (yes l) = lt-ltb j (i + 1) (omega arith) ∙ sym (lt-ltb j i l)
    by (no l) = le-ltb j (i + 1) (past (ℕ_discrete j i)) ∙ sym (le-ltb j i (omega arith))
      where
        past : Dec (j ≡ i) → i + 1 ≤ j
        past (yes e) = absurd (h e)
        past (no e) = omega arith

module _ (m : List ℕ) (n i : ℕ) where
  before_other : (j : ℕ) → j ≢ i → before m n (i + 1) j ≡ before m n i j
  before_other j h = ap (λ (b : Bool). leb (get_or m j 0) n || (eqb (get_or m j 0) (n + 1) && b)) (later j i h)

  before_skip : (get_or m i 0 ≡ n + 1 → ⊥) → (j : ℕ) → before m n (i + 1) j ≡ before m n i j
  before_skip f j = by (ℕ_discrete j i)
    where
      by : Dec (j ≡ i) → before m n (i + 1) j ≡ before m n i j
      by (no h) = before_other j h
      by (yes h) =
          let e : eqb (get_or m j 0) (n + 1) ≡ false = ne_eqb (get_or m j 0) (n + 1) (λ q. f (ap (λ (k : ℕ). get_or m k 0) (sym h) ∙ q)) in
          ap (λ (b : Bool). leb (get_or m j 0) n || (b && ltb j (i + 1))) e ∙ sym (ap (λ (b : Bool). leb (get_or m j 0) n || (b && ltb j i)) e)

  before_now : get_or m i 0 ≡ n + 1 → before m n i i ≡ false
  before_now q = ap₂ (λ (a b : Bool). a || (eqb (get_or m i 0) (n + 1) && b)) (lt-leb (get_or m i 0) n (omega arith)) (le-ltb i i (omega arith))
      ∙ off (eqb (get_or m i 0) (n + 1))
    where
      off : (b : Bool) → (false || (b && false)) ≡ false
      off true = refl
      off false = refl

  before_next : get_or m i 0 ≡ n + 1 → before m n (i + 1) i ≡ true
  before_next q =
      ap₂ (λ (a b : Bool). leb (get_or m i 0) n || (a && b)) (eq-eqb (get_or m i 0) (n + 1) q) (lt-ltb i (i + 1) (omega arith))
      ∙ ap (λ (b : Bool). b || true) (lt-leb (get_or m i 0) n (omega arith))

before-size : (m : List ℕ) (n N j : ℕ) → j < N → before m n N j ≡ before m (n + 1) 0 j
before-size m n N j h = T_ext
    (λ t. to (or-out (leb v n) (eqb v (n + 1) && ltb j N) t))
    (λ t. fro (or-out (leb v (n + 1)) (eqb v (n + 1 + 1) && ltb j 0) t))
  where
    v : ℕ
    v = get_or m j 0

    to : T (leb v n) ⊎ T (eqb v (n + 1) && ltb j N) → T (before m (n + 1) 0 j)
    to (inl t) = or_l (leb v (n + 1)) (eqb v (n + 1 + 1) && ltb j 0) (le→leb v (n + 1) (omega (arith, leb→le v n t)))
    to (inr t) = or_l (leb v (n + 1)) (eqb v (n + 1 + 1) && ltb j 0) (le→leb v (n + 1) (omega (arith, eqb→eq v (n + 1) (and_l (eqb v (n + 1)) (ltb j N) t))))

    fro : T (leb v (n + 1)) ⊎ T (eqb v (n + 1 + 1) && ltb j 0) → T (before m n N j)
    fro (inr t) = absurd (omega (arith, ltb→lt j 0 (and_r (eqb v (n + 1 + 1)) (ltb j 0) t)))
    fro (inl t) = by (ℕ_discrete v (n + 1))
      where
        by : Dec (v ≡ n + 1) → T (before m n N j)
        by (yes q) = or_r (leb v n) (eqb v (n + 1) && ltb j N) (subst T (sym (ap₂ (λ (a b : Bool). a && b) (eq-eqb v (n + 1) q) (lt-ltb j N h))) tt)
        by (no q) = or_l (leb v n) (eqb v (n + 1) && ltb j N) (le→leb v n (below (leb→le v (n + 1) t) q))
          where
            below : v ≤ n + 1 → v ≢ n + 1 → v ≤ n
            below l f = omega arith

module _ (W H : ℕ) (B : List Point) (m : List ℕ) where
  -- ---- how many cover z

  cover-none : (z : Point) → cover_to W H B m 0 0 z ≡ 0
  unfolding cover_to
  cover-none z = count_none (λ j. before m 0 0 j && covers W B m z j) (up_to (W * H)) (λ j k t.
      by j (and_r (before m 0 0 j) (covers W B m z j) t)
      (or-out (leb (get_or m j 0) 0) (eqb (get_or m j 0) 1 && ltb j 0) (and_l (before m 0 0 j) (covers W B m z j) t)))
    where
      by : (j : ℕ) → T (covers W B m z j) → T (leb (get_or m j 0) 0) ⊎ T (eqb (get_or m j 0) 1 && ltb j 0) → ⊥
      by j c (inl t) = subst T (covers-none W H B m j z (omega (arith, leb→le (get_or m j 0) 0 t))) c
      by j c (inr t) = omega (arith, ltb→lt j 0 (and_r (eqb (get_or m j 0) 1) (ltb j 0) t))

  cover_skip : (n i : ℕ) → (get_or m i 0 ≡ n + 1 → ⊥) → (z : Point) → cover_to W H B m n (i + 1) z ≡ cover_to W H B m n i z
  unfolding cover_to
  cover_skip n i f z = ap (λ (p : ℕ → Bool). count_of p (up_to (W * H))) (fun_ext (λ j. ap (λ (b : Bool). b && covers W B m z j) (before_skip m n i f j)))

  cover_next : (n i : ℕ) → i < W * H → get_or m i 0 ≡ n + 1 → (z : Point) → cover_to W H B m n (i + 1) z ≡ cover_to W H B m n i z + digit (covers W B m z i)
  unfolding cover_to
  cover_next n i h q z =
      let a = count-split p' i 0 (W * H) zero-le (omega arith) in
      let b = count-split p i 0 (W * H) zero-le (omega arith) in
      let c : count_of (λ j. not (eqb j i) && p' j) (up_to (W * H)) ≡ count_of (λ j. not (eqb j i) && p j) (up_to (W * H)) =
      ap (λ (f : ℕ → Bool). count_of f (up_to (W * H))) (fun_ext others) in
      let d : digit (p' i) ≡ digit (covers W B m z i) = ap (λ (b : Bool). digit (b && covers W B m z i)) (before_next m n i q) in
      let e : digit (p i) ≡ 0 = ap (λ (b : Bool). digit (b && covers W B m z i)) (before_now m n i q) in
      omega arith
    where
      p : ℕ → Bool
      p j = before m n i j && covers W B m z j

      p' : ℕ → Bool
      p' j = before m n (i + 1) j && covers W B m z j

      others : (j : ℕ) → (not (eqb j i) && p' j) ≡ (not (eqb j i) && p j)
      others j = by (ℕ_discrete j i)
        where
          by : Dec (j ≡ i) → (not (eqb j i) && p' j) ≡ (not (eqb j i) && p j)
          by (yes e) = ap (λ (b : Bool). not b && p' j) (eq-eqb j i e) ∙ sym (ap (λ (b : Bool). not b && p j) (eq-eqb j i e))
          by (no e) = ap (λ (b : Bool). not (eqb j i) && (b && covers W B m z j)) (before_other m n i j e)

  cover-size : (n : ℕ) (z : Point) → cover_to W H B m n (W * H) z ≡ cover_to W H B m (n + 1) 0 z
  unfolding cover_to
  cover-size n z =
      count_same (λ j. before m n (W * H) j && covers W B m z j) (λ j. before m (n + 1) 0 j && covers W B m z j) 0 (W * H) (λ j h.
      let l : j < W * H = omega arith in
      ap (λ (b : Bool). b && covers W B m z j) (before-size m n (W * H) j l))

  cover_gap : (n i d : ℕ) → Without (n + 1) i (i + d) m → (z : Point) → cover_to W H B m n i z ≡ cover_to W H B m n (i + d) z
  cover_gap n i zero f z = ap (λ (k : ℕ). cover_to W H B m n k z) (sym (add-zero i))
  cover_gap n i (suc d) f z =
      let e : i + d + 1 ≡ i + suc d = omega arith in
      cover_gap n i d (λ j lo hi. f j lo (omega arith)) z ∙ sym (cover_skip n (i + d) (f (i + d) (omega arith) (omega arith)) z)
      ∙ ap (λ (k : ℕ). cover_to W H B m n k z) e

  cover_all : (n : ℕ) → greatest m ≤ n → (z : Point) → cover_to W H B m n 0 z ≡ cover W H B m z
  unfolding cover_to cover
  cover_all n h z =
      ap (λ (p : ℕ → Bool). count_of p (up_to (W * H)))
      (fun_ext (λ j. ap (λ (b : Bool). (b || (eqb (get_or m j 0) (n + 1) && ltb j 0)) && covers W B m z j)
      (le-leb (get_or m j 0) n (omega (arith, get_or-greatest m j)))))

  cover-few : (n i : ℕ) (z : Point) → cover_to W H B m n i z ≤ W * H
  unfolding cover_to
  cover-few n i z =
      let f : ℕ → Bool = λ j. before m n i j && covers W B m z j in
      subst (λ (k : ℕ). count_of f (up_to (W * H)) ≤ k) (length-row (λ j. j) 0 (W * H)) (count_le f (up_to (W * H)))

  -- ---- the counters

  pub counting-start : Counting W H B m 0 0 (replicate (W * H) 0)
  unfolding raster
  counting-start = sym (row_zeros (λ x. cover_to W H B m 0 0 (place W x)) 0 (W * H) (λ x. cover-none (place W x)))

  pub counting_gap : (n i e : ℕ) (c : List ℕ) → i ≤ e → Without (n + 1) i e m → Counting W H B m n i c → Counting W H B m n e c
  counting_gap n i e c h f q =
      let z : i + (e - i) ≡ e = omega arith in
      q ∙ ap (raster W H) (fun_ext (λ z. cover_gap n i (e - i) (λ j lo hi. f j lo (omega arith)) z)) ∙ ap (λ (k : ℕ). raster W H (cover_to W H B m n k)) z

  pub counting-size : (n e : ℕ) (c : List ℕ) → e ≡ W * H → Counting W H B m n e c → Counting W H B m (n + 1) 0 c
  counting-size n e c h q = q ∙ ap (λ (k : ℕ). raster W H (cover_to W H B m n k)) h ∙ ap (raster W H) (fun_ext (λ z. cover-size n z))

  pub counting_last : (n : ℕ) (c : List ℕ) → greatest m ≤ n → Counting W H B m n 0 c → c ≡ counts W H B m
  counting_last n c h q = q ∙ ap (raster W H) (fun_ext (λ z. cover_all n h z))

  module _ (n i : ℕ) (c : List ℕ) (q : Counting W H B m n i c) where
    pub counting-length : length c ≡ W * H
    counting-length = ap length q ∙ length-raster W H (cover_to W H B m n i)

    counting-at : (x : ℕ) → x < W * H → get_or c x 0 ≡ cover_to W H B m n i (place W x)
    counting-at x h = ap (λ (s : List ℕ). get_or s x 0) q ∙ get_or-place W H (cover_to W H B m n i) x h

    module _ (r a : ℕ) (plane : List ℕ) (s : Shape W H r B n a plane) (t : AllFit W H B m) (h : i < W * H) where
      stays : get_or m i 0 ≡ n + 1 → Stays W H B n i
      stays e = t.stays i n h (e ∙ add-one n)

      -- a point of the size: its counters can take one
      pub counting_open : get_or m i 0 ≡ n + 1 → Open true (below (W * H) (ink_at W H plane)) i a c
      counting_open e = record {
        within = subst (λ (k : ℕ). (j : ℕ) → T (below (W * H) (ink_at W H plane) j) → (a ≤ i + j) × (i + j < a + k)) (sym counting-length)
            (shape-within W H r B n a plane s i (stays e));
        free = λ k u.
            let w = shape-within W H r B n a plane s i (stays e) k u in
            let l : i + k - a < W * H = omega (arith, w.0, w.1) in
            omega (arith, counting-at (i + k - a) l, cover-few n i (place W (i + k - a)), t.few);
      }

      pub counting_next : get_or m i 0 ≡ n + 1 → (c' : List ℕ) → CoverMoved true (hits (below (W * H) (ink_at W H plane)) i a) c c'
          → Counting W H B m n (i + 1) c'
      counting_next e c' v =
          ext_get_or 0 c' (raster W H (cover_to W H B m n (i + 1))) (v.size ∙ counting-length ∙ sym (length-raster W H (cover_to W H B m n (i + 1)))) (λ x l.
          let lc : x < length c = subst (λ (k : ℕ). x < k) v.size l in
          let hx : x < W * H = subst (λ (k : ℕ). x < k) counting-length lc in
          v.places x lc ∙ by x hx ∙ sym (get_or-place W H (cover_to W H B m n (i + 1)) x hx))
        where
          f : ℕ → Bool
          f = below (W * H) (ink_at W H plane)

          by : (x : ℕ) → x < W * H → get_or c x 0 + digit (hits f i a x) ≡ cover_to W H B m n (i + 1) (place W x)
          by x hx =
              ap₂ (λ (k : ℕ) (b : Bool). k + digit b) (counting-at x hx)
              (shape-hits W H r B n a plane s i x (stays e) ∙ sym (covers-dilate W H B m i n (place W x) (e ∙ add-one n)))
              ∙ sym (cover_next n i h e (place W x))
