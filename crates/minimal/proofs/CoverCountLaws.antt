-- Shortening by cover counts: a point is redundant where each place it covers counts two or more, and dropping it lowers those counts by one.
use mathlib.Core.Bool.{Bool, ◌&&◌, ◌||◌, cond, false, not, true}
use mathlib.Core.List.{List, Memᴰ, [], ◌∷◌}
use mathlib.Core.Logic.{◌≢◌, ◌⊎◌, inl, inr}
use mathlib.Core.Path.{◌∙◌, ◌≡◌, ap, ap₂, fun_ext, refl, subst, sym}
use Prim.Native.Nat.{◌*◌, ◌+◌, ◌-◌, ◌<◌, ◌≤◌, suc, zero, zero-le, ℕ}
use native.Mathlib.Decide.{ℕ_discrete}
use native.Mathlib.Nat.{add-suc, add-zero, suc-add, suc-ne-zero, zero-add}
use native.Mathlib.Omega.{arith}
use borrow.Author.Tests.{eq-eqb, ne_eqb}
use lib.Dec.{T, T_not, eqb, eqb-suc-zero, eqb→eq, leb, leb→le, le→leb}
use lib.ListN.{get_or, length, set}
use lib.Seq.{get_or-set_other}
use Rattle.morphology.specs.Image.{on_frame}
use Rattle.morphology.specs.Labels.{place, places, points_of}
use Rattle.morphology.specs.Lists.{count_of, every_of, some_of, tabulate, up_to}
use Rattle.morphology.specs.Minimal.{covers, drop_at, drop_size, drop_sizes, is_redundant, minimal_below}
use Rattle.morphology.specs.Morphology.{dilate, times}
use Rattle.morphology.specs.Point.{Point, ◌⊞◌, same_point}
use Rattle.morphology.specs.Skeleton.{stamp}
use Rattle.minimal.specs.Covers.{Stays, counts, cover, spread}
use Rattle.morphology.proofs.CountLaws.{count_none, count-some, digit, digit-some}
use Rattle.morphology.proofs.CoverLaws.{in-up_to, of-up_to}
use Rattle.morphology.proofs.FrameLaws.{OnFrame, on_in}
use Rattle.morphology.proofs.ImageLaws.{row_mem}
use Rattle.morphology.proofs.LabelLaws.{get_or-place, length-raster, on-places}
use Rattle.morphology.proofs.MinimalLaws.{get_or_dropped, minimal_sub, other}
use Rattle.morphology.proofs.MorphologyLaws.{dilate_in, dilate-out, dilate_sub}
use Rattle.morphology.proofs.PointLaws.{same_eq, same_refl}
use Rattle.morphology.proofs.TestLaws.{T_ext, all_in, all-out, and_in, and_r, any_in, any_out, decide, or_l, or-out, or_r}

-- ---- counts of others

pub any-count : {A : Type 0} (p : A → Bool) (l : List A) → some_of p l ≡ leb 1 (count_of p l)
any-count p l = T_ext
    (λ t. let r = any_out p l t in le→leb 1 (count_of p l) (count-some p r.1 r.2))
    (λ t. go (leb→le 1 (count_of p l) t) (decide (some_of p l)))
  where
    go : 1 ≤ count_of p l → T (some_of p l) ⊎ T (not (some_of p l)) → T (some_of p l)
    go h (inl t) = t
    go h (inr t) = absurd (omega (arith, count_none p l (λ a m u. T_not (some_of p l) t (any_in p m u))))

digit_other : (p : ℕ → Bool) (i j : ℕ) → j ≢ i → digit (not (eqb j i) && p j) ≡ digit (p j)
digit_other p i j h = ap (λ (b : Bool). digit (not b && p j)) (ne_eqb j i h)

digit_self : (p : ℕ → Bool) (i j : ℕ) → j ≡ i → digit (not (eqb j i) && p j) ≡ 0
digit_self p i j h = ap (λ (b : Bool). digit (not b && p j)) (eq-eqb j i h)

count_beyond : (p : ℕ → Bool) (i s n : ℕ) → i < s → count_of (λ j. not (eqb j i) && p j) (tabulate (λ j. j) s n) ≡ count_of p (tabulate (λ j. j) s n)
unfolding count_of tabulate
count_beyond p i s zero h = refl
count_beyond p i s (suc n) h =
    let ne : s ≢ i = λ q. omega arith in
    ap₂ (λ (a b : ℕ). a + b) (digit_other p i s ne) (count_beyond p i (suc s) n (omega arith))

-- the count is i's own and the others'
pub count-split : (p : ℕ → Bool) (i s n : ℕ) → s ≤ i → i < s + n
    → count_of p (tabulate (λ j. j) s n) ≡ digit (p i) + count_of (λ j. not (eqb j i) && p j) (tabulate (λ j. j) s n)
unfolding count_of tabulate
count-split p i s zero h l = absurd (omega arith)
count-split p i s (suc n) h l = go (count-split p i (suc s) n) (ℕ_discrete s i)
  where
    rest : ℕ
    rest = count_of (λ j. not (eqb j i) && p j) (tabulate (λ j. j) (suc s) n)

    go : (suc s ≤ i → i < suc s + n → count_of p (tabulate (λ j. j) (suc s) n) ≡ digit (p i) + rest) → Dec (s ≡ i)
        → digit (p s) + count_of p (tabulate (λ j. j) (suc s) n) ≡ digit (p i) + (digit (not (eqb s i) && p s) + rest)
    go up (yes q) =
        let a = digit_self p i s q in
        let b = count_beyond p i (suc s) n (omega arith) in
        let c = ap (λ (k : ℕ). digit (p k)) q in
        omega arith
    go up (no q) =
        let a = digit_other p i s q in
        let b = up (omega arith) (omega arith) in
        omega arith

-- ---- cover counts

module _ (W H : ℕ) (B : List Point) where
  pub counts-length : (m : List ℕ) → length (counts W H B m) ≡ W * H
  counts-length m = length-raster W H (cover W H B m)

  -- ---- one point's cover

  -- a place without a point covers nothing
  pub covers-none : (m : List ℕ) (i : ℕ) (z : Point) → get_or m i 0 ≡ 0 → covers W B m z i ≡ false
  unfolding stamp
  covers-none m i z q = ap (λ (v : ℕ). stamp B 0 (place W i) v z) q

  -- one with a point of size n covers nB moved to it: its place dilated n times
  pub covers-dilate : (m : List ℕ) (i n : ℕ) (z : Point) → get_or m i 0 ≡ suc n → covers W B m z i ≡ dilate (times B n) (λ y. same_point y (place W i)) z
  unfolding stamp
  covers-dilate m i n z q = ap (λ (v : ℕ). stamp B 0 (place W i) v z) q ∙ T_ext to fro
    where
      p : Point
      p = place W i

      D : Point → Bool
      D = dilate (times B n) (λ y. same_point y p)

      to : T (stamp B 0 p (suc n) z) → T (D z)
      to t =
          let r = any_out (λ c. same_point z (p ⊞ c)) (times B n) (and_r (leb 0 n) (some_of (λ c. same_point z (p ⊞ c)) (times B n)) t) in
          subst (λ (y : Point). T (D y)) (sym (same_eq z (p ⊞ r.0) r.2)) (dilate_in (times B n) (λ y. same_point y p) p r.0 (same_refl p) r.1)

      fro : T (D z) → T (stamp B 0 p (suc n) z)
      fro t =
          let r = dilate-out (times B n) (λ y. same_point y p) z t in
          let w : z ≡ p ⊞ r.1 = r.4 ∙ ap (λ (y : Point). y ⊞ r.1) (same_eq r.0 p r.2) in
          and_in (leb 0 n) (some_of (λ c. same_point z (p ⊞ c)) (times B n)) (le→leb 0 n zero-le)
          (any_in (λ c. same_point z (p ⊞ c)) r.3 (subst (λ (y : Point). T (same_point z y)) w (same_refl z)))

  pub covers_own : (m : List ℕ) (i n : ℕ) {b : Point} → get_or m i 0 ≡ suc n → Memᴰ b (times B n) → T (covers W B m (place W i ⊞ b) i)
  covers_own m i n {b} q k =
      subst T (sym (covers-dilate m i n (place W i ⊞ b) q)) (dilate_in (times B n) (λ y. same_point y (place W i)) (place W i) b (same_refl (place W i)) k)

  -- ---- dropping a point

  pub covers_dropped : (m : List ℕ) (i : ℕ) (z : Point) (j : ℕ) → covers W B (set m i 0) z j ≡ other W B m i z j
  covers_dropped m i z j = go (ℕ_discrete j i)
    where
      go : Dec (j ≡ i) → covers W B (set m i 0) z j ≡ (not (eqb j i) && covers W B m z j)
      go (yes q) =
          covers-none (set m i 0) j z (ap (λ (k : ℕ). get_or (set m i 0) k 0) q ∙ get_or_dropped m i)
          ∙ sym (ap (λ (b : Bool). not b && covers W B m z j) (eq-eqb j i q))
      go (no q) =
          ap (λ (v : ℕ). stamp B 0 (place W j) v z) (get_or-set_other m i j 0 0 q)
          ∙ sym (ap (λ (b : Bool). not b && covers W B m z j) (ne_eqb j i q))

  others : (m : List ℕ) (i : ℕ) (z : Point) → i < W * H → cover W H B m z ≡ digit (covers W B m z i) + count_of (other W B m i z) (up_to (W * H))
  unfolding cover
  others m i z h = count-split (covers W B m z) i 0 (W * H) zero-le (omega arith)

  -- the counts fall by one on its cover, and nowhere else
  pub cover-drop : (m : List ℕ) (i : ℕ) (z : Point) → i < W * H → cover W H B m z ≡ digit (covers W B m z i) + cover W H B (set m i 0) z
  unfolding cover
  cover-drop m i z h =
      others m i z h ∙ ap (λ (p : ℕ → Bool). digit (covers W B m z i) + count_of p (up_to (W * H))) (sym (fun_ext (λ j. covers_dropped m i z j)))

  pub counts-drop : (m : List ℕ) (i x : ℕ) → i < W * H → x < W * H
      → get_or (counts W H B (set m i 0)) x 0 ≡ get_or (counts W H B m) x 0 - digit (covers W B m (place W x) i)
  counts-drop m i x h l =
      let a = get_or-place W H (cover W H B (set m i 0)) x l in
      let b = get_or-place W H (cover W H B m) x l in
      let c = cover-drop m i (place W x) h in
      omega arith

  -- ---- the test by counts

  -- another point covers z, exactly when the count is two or more
  pub other-count : (m : List ℕ) (i : ℕ) (z : Point) → i < W * H → T (covers W B m z i) → some_of (other W B m i z) (up_to (W * H)) ≡ leb 2 (cover W H B m z)
  other-count m i z h t =
      let c = count_of (other W B m i z) (up_to (W * H)) in
      let q : cover W H B m z ≡ 1 + c = others m i z h ∙ ap (λ (k : ℕ). k + c) (digit-some (covers W B m z i) t) in
      any-count (other W B m i z) (up_to (W * H))
      ∙ T_ext (λ u. let l = leb→le 1 c u in le→leb 2 (cover W H B m z) (omega arith)) (λ u. let l = leb→le 2 (cover W H B m z) u in le→leb 1 c (omega arith))

  pub redundant-count : (m : List ℕ) (i n : ℕ) → i < W * H → get_or m i 0 ≡ suc n
      → is_redundant W H B n m i ≡ every_of (λ b. leb 2 (cover W H B m (place W i ⊞ b))) (times B n)
  unfolding is_redundant
  redundant-count m i n h q = T_ext
      (λ t. all_in (λ b. leb 2 (cover W H B m (place W i ⊞ b))) (times B n)
      (λ b k. subst T (same b k) (all-out (λ b. some_of (other W B m i (place W i ⊞ b)) (up_to (W * H))) t k)))
      (λ t. all_in (λ b. some_of (other W B m i (place W i ⊞ b)) (up_to (W * H))) (times B n)
      (λ b k. subst T (sym (same b k)) (all-out (λ b. leb 2 (cover W H B m (place W i ⊞ b))) t k)))
    where
      same : (b : Point) → Memᴰ b (times B n) → some_of (other W B m i (place W i ⊞ b)) (up_to (W * H)) ≡ leb 2 (cover W H B m (place W i ⊞ b))
      same b k = other-count m i (place W i ⊞ b) h (covers_own m i n q k)

  -- ---- the test by counters

  -- a point that stays on the frame covers nothing off it
  pub spread_on : (n i : ℕ) → Stays W H B n i → OnFrame W H (spread W B n i)
  spread_on n i stay = on_in W H (spread W B n i) (dilate_sub (times B n) (λ y. same_point y (place W i)) (on_frame W H) (λ x b t m.
      subst (λ (y : Point). T (on_frame W H (y ⊞ b))) (sym (same_eq x (place W i) t)) (stay b m)))

  pub frame-place : (z : Point) → T (on_frame W H z) → (x : ℕ) × (x < W * H) × (z ≡ place W x)
  unfolding places
  frame-place z t =
      let r = row_mem (place W) 0 (W * H) (on-places W H (on_frame W H) (on_in W H (on_frame W H) (λ p u. u)) z t) in
      (r.0, r.1, r.2 ∙ ap (place W) (zero-add r.0))

  -- each place that the point covers counts two or more
  abbrev pub all_twice : ℕ → ℕ → List ℕ → Bool
  all_twice n i c = every_of (λ x. not (spread W B n i (place W x)) || leb 2 (get_or c x 0)) (up_to (W * H))

  pub redundant-counters : (m : List ℕ) (i n : ℕ) → i < W * H → get_or m i 0 ≡ suc n → Stays W H B n i → is_redundant W H B n m i ≡ all_twice n i (counts W H B m)
  redundant-counters m i n h q stay = redundant-count m i n h q ∙ T_ext
      (λ t. all_in (λ x. not (D x) || two x) (up_to (W * H)) (λ x k. to t x (of-up_to (W * H) k) (decide (D x))))
      (λ t. all_in (λ b. leb 2 (cover W H B m (place W i ⊞ b))) (times B n) (λ b k. fro t b k))
    where
      D : ℕ → Bool
      D x = spread W B n i (place W x)

      two : ℕ → Bool
      two x = leb 2 (get_or (counts W H B m) x 0)

      two_is : (x : ℕ) → x < W * H → two x ≡ leb 2 (cover W H B m (place W x))
      two_is x l = ap (leb 2) (get_or-place W H (cover W H B m) x l)

      to : T (every_of (λ b. leb 2 (cover W H B m (place W i ⊞ b))) (times B n)) → (x : ℕ) → x < W * H → T (D x) ⊎ T (not (D x)) → T (not (D x) || two x)
      to t x l (inr u) = or_l (not (D x)) (two x) u
      to t x l (inl u) =
          let r = dilate-out (times B n) (λ y. same_point y (place W i)) (place W x) u in
          let w : place W i ⊞ r.1 ≡ place W x = sym (r.4 ∙ ap (λ (y : Point). y ⊞ r.1) (same_eq r.0 (place W i) r.2)) in
          or_r (not (D x)) (two x)
          (subst T (sym (two_is x l)) (subst (λ (y : Point). T (leb 2 (cover W H B m y))) w (all-out (λ b. leb 2 (cover W H B m (place W i ⊞ b))) t r.3)))

      fro : T (every_of (λ x. not (D x) || two x) (up_to (W * H))) → (b : Point) → Memᴰ b (times B n) → T (leb 2 (cover W H B m (place W i ⊞ b)))
      fro t b k =
          let f = frame-place (place W i ⊞ b) (stay b k) in
          let x = f.0 in
          by x f.1 (sym f.2) (or-out (not (D x)) (two x) (all-out (λ x. not (D x) || two x) t (in-up_to (W * H) x f.1)))
        where
          by : (x : ℕ) → x < W * H → place W x ≡ place W i ⊞ b → T (not (D x)) ⊎ T (two x) → T (leb 2 (cover W H B m (place W i ⊞ b)))
          by x l w (inr u) = subst (λ (y : Point). T (leb 2 (cover W H B m y))) w (subst T (two_is x l) u)
          by x l w (inl u) =
              absurd (T_not (D x) u
              (subst (λ (y : Point). T (spread W B n i y)) (sym w) (dilate_in (times B n) (λ y. same_point y (place W i)) (place W i) b (same_refl (place W i))
              k)))

  -- the counters after a drop
  pub counters-drop : (m : List ℕ) (i n x : ℕ) → i < W * H → x < W * H → get_or m i 0 ≡ suc n
      → get_or (counts W H B (set m i 0)) x 0 ≡ get_or (counts W H B m) x 0 - digit (spread W B n i (place W x))
  counters-drop m i n x h l q = counts-drop m i x h l ∙ ap (λ (b : Bool). get_or (counts W H B m) x 0 - digit b) (covers-dilate m i n (place W x) q)

  -- ---- the walk

  -- a step by counters
  pub drop_turn : (n i : ℕ) (m : List ℕ) → i < W * H → (get_or m i 0 ≡ suc n → Stays W H B n i)
      → drop_at W H B n m i ≡ cond (eqb (get_or m i 0) (suc n) && all_twice n i (counts W H B m)) (set m i 0) m
  unfolding drop_at
  drop_turn n i m h stay = go (eqb (get_or m i 0) (suc n)) refl
    where
      go : (b : Bool) → eqb (get_or m i 0) (suc n) ≡ b
          → cond (b && is_redundant W H B n m i) (set m i 0) m ≡ cond (b && all_twice n i (counts W H B m)) (set m i 0) m
      go true e = let q = eqb→eq (get_or m i 0) (suc n) (subst T (sym e) tt) in ap (λ (b : Bool). cond b (set m i 0) m) (redundant-counters m i n h q (stay q))
      go false e = refl

  drop-row : (n s k : ℕ) (m : List ℕ)
      → drop_size W H B n (tabulate (λ j. j) s (suc k)) m ≡ drop_at W H B n (drop_size W H B n (tabulate (λ j. j) s k) m) (s + k)
  unfolding drop_size tabulate
  drop-row n s zero m = ap (drop_at W H B n m) (sym (add-zero s))
  drop-row n s (suc k) m =
      drop-row n (suc s) k (drop_at W H B n m s)
      ∙ ap (drop_at W H B n (drop_size W H B n (tabulate (λ j. j) (suc s) k) (drop_at W H B n m s))) (suc-add s k ∙ sym (add-suc s k))

  -- one place more
  pub size_turn : (n i : ℕ) (m : List ℕ) → drop_size W H B n (up_to (suc i)) m ≡ drop_at W H B n (drop_size W H B n (up_to i) m) i
  size_turn n i m = drop-row n 0 i m ∙ ap (drop_at W H B n (drop_size W H B n (up_to i) m)) (zero-add i)

  pub size-start : (n : ℕ) (m : List ℕ) → drop_size W H B n (up_to 0) m ≡ m
  unfolding drop_size tabulate
  size-start n m = refl

  sizes-row : (s k : ℕ) (m : List ℕ)
      → drop_sizes W H B (tabulate (λ j. j) s (suc k)) m ≡ drop_size W H B (s + k) (up_to (W * H)) (drop_sizes W H B (tabulate (λ j. j) s k) m)
  unfolding drop_sizes tabulate
  sizes-row s zero m = ap (λ (n : ℕ). drop_size W H B n (up_to (W * H)) m) (sym (add-zero s))
  sizes-row s (suc k) m =
      let m' = drop_size W H B s (up_to (W * H)) m in
      sizes-row (suc s) k m' ∙ ap (λ (n : ℕ). drop_size W H B n (up_to (W * H)) (drop_sizes W H B (tabulate (λ j. j) (suc s) k) m'))
      (suc-add s k ∙ sym (add-suc s k))

  -- one size more
  pub minimal_turn : (n : ℕ) (m : List ℕ) → minimal_below (suc n) W H B m ≡ drop_size W H B n (up_to (W * H)) (minimal_below n W H B m)
  unfolding minimal_below
  minimal_turn n m = sizes-row 0 n m ∙ ap (λ (k : ℕ). drop_size W H B k (up_to (W * H)) (drop_sizes W H B (up_to n) m)) (zero-add n)

  pub minimal-start : (m : List ℕ) → minimal_below 0 W H B m ≡ m
  unfolding minimal_below drop_sizes tabulate
  minimal-start m = refl

  -- a size that no point has
  pub size-idle : (n : ℕ) (is m : List ℕ) → ((j : ℕ) → get_or m j 0 ≡ suc n → ⊥) → drop_size W H B n is m ≡ m
  unfolding drop_size drop_at
  size-idle n [] m f = refl
  size-idle n (i ∷ is) m f =
      ap (λ (b : Bool). drop_size W H B n is (cond (b && is_redundant W H B n m i) (set m i 0) m)) (ne_eqb (get_or m i 0) (suc n) (f i))
      ∙ size-idle n is m f

  label_bound : (N n : ℕ) (m : List ℕ) → ((j : ℕ) → get_or m j 0 ≤ N) → (j : ℕ) → get_or (minimal_below n W H B m) j 0 ≤ N
  label_bound N n m f j = go (minimal_sub W H B n m j)
    where
      m' : List ℕ
      m' = minimal_below n W H B m

      go : (get_or m' j 0 ≡ get_or m j 0) ⊎ (get_or m' j 0 ≡ 0) → get_or m' j 0 ≤ N
      go (inl q) = omega (arith, f j)
      go (inr q) = omega arith

  -- sizes past the largest label change nothing
  pub minimal-enough : (N d : ℕ) (m : List ℕ) → ((j : ℕ) → get_or m j 0 ≤ N) → minimal_below (d + N) W H B m ≡ minimal_below N W H B m
  minimal-enough N zero m f = ap (λ (k : ℕ). minimal_below k W H B m) (zero-add N)
  minimal-enough N (suc d) m f =
      ap (λ (k : ℕ). minimal_below k W H B m) (suc-add d N) ∙ minimal_turn (d + N) m
      ∙ size-idle (d + N) (up_to (W * H)) (minimal_below (d + N) W H B m) (λ j q. omega (arith, label_bound N (d + N) m f j))
      ∙ minimal-enough N d m f

-- ---- the points left

pub points-drop : (m : List ℕ) (i n : ℕ) → get_or m i 0 ≡ suc n → points_of m ≡ suc (points_of (set m i 0))
unfolding count_of
points-drop [] i n q = absurd (suc-ne-zero n (sym q))
points-drop (v ∷ m) zero n q = let e = ap (λ (k : ℕ). digit (not (eqb k 0))) q ∙ ap (λ (b : Bool). digit (not b)) (eqb-suc-zero n) in omega arith
points-drop (v ∷ m) (suc i) n q = let r = points-drop m i n q in omega arith
