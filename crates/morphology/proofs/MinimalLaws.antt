-- The minimal skeleton: the walk only drops, the cover stays, no point left is redundant.
use mathlib.Core.Bool.{Bool, ◌&&◌, cond, false, not, true}
use mathlib.Core.List.{List, Memᴰ, [], ◌∷◌}
use mathlib.Core.Logic.{◌≢◌, ◌⊎◌, inl, inr}
use mathlib.Core.Path.{◌∙◌, ◌≡◌, ap, refl, subst, sym}
use Prim.Native.Nat.{◌*◌, ◌<◌, ◌≤◌, suc, zero-le, ℕ}
use native.Mathlib.Decide.{dec_lt, ℕ_discrete}
use native.Mathlib.Nat.{suc-ne-zero, zero-add}
use native.Mathlib.Omega.{arith}
use lib.Dec.{T, T_not, eqb, eqb_refl, eqb→eq, leb, le→leb, not_T}
use lib.ListN.{get_or-eq_default, get_or, length, length-set, set}
use lib.Seq.{get_or-set_other, get_or-set_same, set_out}
use Rattle.morphology.specs.Labels.{place, places}
use Rattle.morphology.specs.Lists.{every_of, some_of, up_to}
use Rattle.morphology.specs.Minimal.{covers, drop_at, drop_size, drop_sizes, is_redundant, minimal_below}
use Rattle.morphology.specs.Morphology.{times}
use Rattle.morphology.specs.Point.{Point, ◌⊞◌, same_point}
use Rattle.morphology.specs.Skeleton.{stamp}
use Rattle.morphology.proofs.ImageLaws.{mem-row}
use Rattle.morphology.proofs.PointLaws.{same_refl}
use Rattle.morphology.proofs.SubsetLaws.{stamp-out}
use Rattle.morphology.proofs.TestLaws.{all_in, all-out, and_in, and_l, and_r, any_in, any_out}

-- ---- fewer points

-- each label is kept or dropped
abbrev pub Sub : List ℕ → List ℕ → Type 0
Sub m' m = (j : ℕ) → (get_or m' j 0 ≡ get_or m j 0) ⊎ (get_or m' j 0 ≡ 0)

pub sub_refl : (m : List ℕ) → Sub m m
sub_refl m j = inl refl

pub sub_trans : (a b c : List ℕ) → Sub a b → Sub b c → Sub a c
sub_trans a b c f g j = go (f j) (g j)
  where
    go : (get_or a j 0 ≡ get_or b j 0) ⊎ (get_or a j 0 ≡ 0) → (get_or b j 0 ≡ get_or c j 0) ⊎ (get_or b j 0 ≡ 0) → (get_or a j 0 ≡ get_or c j 0) ⊎ (get_or a j 0 ≡ 0)
    go (inl p) (inl q) = inl (p ∙ q)
    go (inl p) (inr q) = inr (p ∙ q)
    go (inr p) q = inr p

-- a label that is left was there
pub sub-label : (m' m : List ℕ) → Sub m' m → (j n : ℕ) → get_or m' j 0 ≡ suc n → get_or m j 0 ≡ suc n
sub-label m' m f j n e = go (f j)
  where
    go : (get_or m' j 0 ≡ get_or m j 0) ⊎ (get_or m' j 0 ≡ 0) → get_or m j 0 ≡ suc n
    go (inl p) = sym p ∙ e
    go (inr p) = absurd (suc-ne-zero n (sym e ∙ p))

pub get_or_dropped : (m : List ℕ) (i : ℕ) → get_or (set m i 0) i 0 ≡ 0
get_or_dropped m i = go (dec_lt i (length m))
  where
    go : Dec (i < length m) → get_or (set m i 0) i 0 ≡ 0
    go (yes h) = get_or-set_same m i 0 0 h
    go (no h) = let l : length m ≤ i = omega arith in ap (λ (k : List ℕ). get_or k i 0) (set_out m i 0 l) ∙ get_or-eq_default m 0 l

pub set_sub : (m : List ℕ) (i : ℕ) → Sub (set m i 0) m
set_sub m i j = go (ℕ_discrete j i)
  where
    go : Dec (j ≡ i) → (get_or (set m i 0) j 0 ≡ get_or m j 0) ⊎ (get_or (set m i 0) j 0 ≡ 0)
    go (yes e) = inr (ap (λ (k : ℕ). get_or (set m i 0) k 0) e ∙ get_or_dropped m i)
    go (no n) = inl (get_or-set_other m i j 0 0 n)

-- a point of the map other than the one at place i covers z
abbrev pub other : ℕ → List Point → List ℕ → ℕ → Point → ℕ → Bool
other W B m i z j = not (eqb j i) && covers W B m z j

-- some point of the map covers z
abbrev pub covered : ℕ → ℕ → List Point → List ℕ → Point → Bool
covered W H B m z = some_of (covers W B m z) (up_to (W * H))

module _ (W H : ℕ) (B : List Point) where
  pub covers_out : (m : List ℕ) (z : Point) (j : ℕ) → T (covers W B m z j)
      → (n : ℕ) × (c : Point) × (get_or m j 0 ≡ suc n) × Memᴰ c (times B n) × (z ≡ place W j ⊞ c)
  covers_out m z j t =
      let r = stamp-out (places W H) B 0 (place W j) (get_or m j 0) z t in
      (r.0, r.1, r.2, r.4, r.5)

  covers_sub : (m' m : List ℕ) → Sub m' m → (z : Point) (j : ℕ) → T (covers W B m' z j) → T (covers W B m z j)
  covers_sub m' m f z j t =
      let r = covers_out m' z j t in
      subst (λ (v : ℕ). T (stamp B 0 (place W j) v z)) (r.2 ∙ sym (sub-label m' m f j r.0 r.2)) t

  redundant_sub : (m' m : List ℕ) → Sub m' m → (n i : ℕ) → T (is_redundant W H B n m' i) → T (is_redundant W H B n m i)
  unfolding is_redundant
  redundant_sub m' m f n i t =
      all_in (λ b. some_of (other W B m i (place W i ⊞ b)) (up_to (W * H))) (times B n) (λ b k.
      let r = any_out (other W B m' i (place W i ⊞ b)) (up_to (W * H)) (all-out (λ b. some_of (other W B m' i (place W i ⊞ b)) (up_to (W * H))) t k) in
      let j = r.0 in
      any_in (other W B m i (place W i ⊞ b)) r.1
      (and_in (not (eqb j i)) (covers W B m (place W i ⊞ b) j) (and_l (not (eqb j i)) (covers W B m' (place W i ⊞ b) j) r.2)
      (covers_sub m' m f (place W i ⊞ b) j (and_r (not (eqb j i)) (covers W B m' (place W i ⊞ b) j) r.2))))

  -- ---- a step of the walk

  drop_sub : (n i : ℕ) (m : List ℕ) → Sub (drop_at W H B n m i) m
  unfolding drop_at
  drop_sub n i m = go (eqb (get_or m i 0) (suc n) && is_redundant W H B n m i)
    where
      go : (b : Bool) → Sub (cond b (set m i 0) m) m
      go true = set_sub m i
      go false = sub_refl m

  -- place i holds no redundant point of size n
  abbrev Done : ℕ → ℕ → List ℕ → Type 0
  Done n i m = get_or m i 0 ≡ suc n → T (is_redundant W H B n m i) → ⊥

  done_sub : (n i : ℕ) (m' m : List ℕ) → Sub m' m → Done n i m → Done n i m'
  done_sub n i m' m f d e t = d (sub-label m' m f i n e) (redundant_sub m' m f n i t)

  drop_done : (n i : ℕ) (m : List ℕ) → Done n i (drop_at W H B n m i)
  unfolding drop_at
  drop_done n i m = go (eqb (get_or m i 0) (suc n) && is_redundant W H B n m i) refl
    where
      go : (b : Bool) → (eqb (get_or m i 0) (suc n) && is_redundant W H B n m i) ≡ b → Done n i (cond b (set m i 0) m)
      go true q e t = suc-ne-zero n (sym e ∙ get_or_dropped m i)
      go false q e t =
          subst T q (and_in (eqb (get_or m i 0) (suc n)) (is_redundant W H B n m i) (subst (λ (v : ℕ). T (eqb v (suc n))) (sym e) (eqb_refl (suc n))) t)

  pub covered_sub : (m' m : List ℕ) → Sub m' m → (z : Point) → T (covered W H B m' z) → T (covered W H B m z)
  covered_sub m' m f z t = let r = any_out (covers W B m' z) (up_to (W * H)) t in any_in (covers W B m z) r.1 (covers_sub m' m f z r.0 r.2)

  -- another point's cover stays where i is dropped
  pub other-stays : (m : List ℕ) (i : ℕ) (z : Point) (j : ℕ) → j ≢ i → T (covers W B m z j) → T (covers W B (set m i 0) z j)
  other-stays m i z j h t = subst (λ (v : ℕ). T (stamp B 0 (place W j) v z)) (sym (get_or-set_other m i j 0 0 h)) t

  pub ne_of : (j i : ℕ) → T (not (eqb j i)) → j ≢ i
  ne_of j i t e = T_not (eqb j i) t (subst (λ (k : ℕ). T (eqb j k)) e (eqb_refl j))

  drop-covered : (n i : ℕ) (m : List ℕ) (z : Point) → T (covered W H B m z) → T (covered W H B (drop_at W H B n m i) z)
  unfolding drop_at is_redundant
  drop-covered n i m z t = go (eqb (get_or m i 0) (suc n) && is_redundant W H B n m i) refl
    where
      r : (j : ℕ) × Memᴰ j (up_to (W * H)) × T (covers W B m z j)
      r = any_out (covers W B m z) (up_to (W * H)) t

      by : T (eqb (get_or m i 0) (suc n) && is_redundant W H B n m i) → Dec (r.0 ≡ i) → T (covered W H B (set m i 0) z)
      by u (no h) = any_in (covers W B (set m i 0) z) r.1 (other-stays m i z r.0 h r.2)
      by u (yes h) =
          let e = eqb→eq (get_or m i 0) (suc n) (and_l (eqb (get_or m i 0) (suc n)) (is_redundant W H B n m i) u) in
          let o = covers_out m z r.0 r.2 in
          let k : o.0 ≡ n = omega (arith, sym o.2 ∙ ap (λ (k : ℕ). get_or m k 0) h ∙ e) in
          let c = subst (λ (s : ℕ). Memᴰ o.1 (times B s)) k o.3 in
          let a = all-out (λ b. some_of (other W B m i (place W i ⊞ b)) (up_to (W * H))) (and_r (eqb (get_or m i 0) (suc n)) (is_redundant W H B n m i) u) c in
          let q = any_out (other W B m i (place W i ⊞ o.1)) (up_to (W * H)) a in
          let j = q.0 in
          let z' = place W i ⊞ o.1 in
          let w : z' ≡ z = ap (λ (s : ℕ). place W s ⊞ o.1) (sym h) ∙ sym o.4 in
          subst (λ (y : Point). T (covered W H B (set m i 0) y)) w
          (any_in (covers W B (set m i 0) z') q.1 (other-stays m i z' j (ne_of j i (and_l (not (eqb j i)) (covers W B m z' j) q.2)) (and_r (not (eqb j i)) (covers W B m z' j) q.2)))

      go : (b : Bool) → (eqb (get_or m i 0) (suc n) && is_redundant W H B n m i) ≡ b → T (covered W H B (cond b (set m i 0) m) z)
      go true q = by (subst T (sym q) tt) (ℕ_discrete r.0 i)
      go false q = t

  -- ---- the walk over the places, and over the sizes

  pub size_sub : (n : ℕ) (is m : List ℕ) → Sub (drop_size W H B n is m) m
  unfolding drop_size
  size_sub n [] m = sub_refl m
  size_sub n (i ∷ is) m = sub_trans (drop_size W H B n is (drop_at W H B n m i)) (drop_at W H B n m i) m (size_sub n is (drop_at W H B n m i)) (drop_sub n i m)

  size-covered : (n : ℕ) (is m : List ℕ) (z : Point) → T (covered W H B m z) → T (covered W H B (drop_size W H B n is m) z)
  unfolding drop_size
  size-covered n [] m z t = t
  size-covered n (i ∷ is) m z t = size-covered n is (drop_at W H B n m i) z (drop-covered n i m z t)

  size_done : (n : ℕ) {i : ℕ} {is : List ℕ} → Memᴰ i is → (m : List ℕ) → Done n i (drop_size W H B n is m)
  unfolding drop_size
  size_done n {i} (Memᴰ.head {x} {xs} e) m =
      subst (λ (k : ℕ). Done n k (drop_size W H B n xs (drop_at W H B n m x))) (sym e)
      (done_sub n x (drop_size W H B n xs (drop_at W H B n m x)) (drop_at W H B n m x) (size_sub n xs (drop_at W H B n m x)) (drop_done n x m))
  size_done n (Memᴰ.tail {x} {xs} k) m = size_done n k (drop_at W H B n m x)

  pub sizes_sub : (ns m : List ℕ) → Sub (drop_sizes W H B ns m) m
  unfolding drop_sizes
  sizes_sub [] m = sub_refl m
  sizes_sub (n ∷ ns) m =
      let m' = drop_size W H B n (up_to (W * H)) m in
      sub_trans (drop_sizes W H B ns m') m' m (sizes_sub ns m') (size_sub n (up_to (W * H)) m)

  sizes-covered : (ns m : List ℕ) (z : Point) → T (covered W H B m z) → T (covered W H B (drop_sizes W H B ns m) z)
  unfolding drop_sizes
  sizes-covered [] m z t = t
  sizes-covered (n ∷ ns) m z t = sizes-covered ns (drop_size W H B n (up_to (W * H)) m) z (size-covered n (up_to (W * H)) m z t)

  sizes_done : {n : ℕ} {ns : List ℕ} → Memᴰ n ns → (i : ℕ) → i < W * H → (m : List ℕ) → Done n i (drop_sizes W H B ns m)
  unfolding drop_sizes
  sizes_done {n} (Memᴰ.head {x} {xs} e) i h m =
      let m' = drop_size W H B x (up_to (W * H)) m in
      let k = subst (λ (j : ℕ). Memᴰ j (up_to (W * H))) (zero-add i) (mem-row (λ j. j) 0 (W * H) i h) in
      subst (λ (s : ℕ). Done s i (drop_sizes W H B xs m')) (sym e) (done_sub x i (drop_sizes W H B xs m') m' (sizes_sub xs m') (size_done x k m))
  sizes_done (Memᴰ.tail {x} {xs} k) i h m = sizes_done k i h (drop_size W H B x (up_to (W * H)) m)

  -- no place goes
  drop-length : (n i : ℕ) (m : List ℕ) → length (drop_at W H B n m i) ≡ length m
  unfolding drop_at
  drop-length n i m = go (eqb (get_or m i 0) (suc n) && is_redundant W H B n m i)
    where
      go : (b : Bool) → length (cond b (set m i 0) m) ≡ length m
      go true = length-set m i 0
      go false = refl

  size-length : (n : ℕ) (is m : List ℕ) → length (drop_size W H B n is m) ≡ length m
  unfolding drop_size
  size-length n [] m = refl
  size-length n (i ∷ is) m = size-length n is (drop_at W H B n m i) ∙ drop-length n i m

  pub sizes-length : (ns m : List ℕ) → length (drop_sizes W H B ns m) ≡ length m
  unfolding drop_sizes
  sizes-length [] m = refl
  sizes-length (n ∷ ns) m = sizes-length ns (drop_size W H B n (up_to (W * H)) m) ∙ size-length n (up_to (W * H)) m

  pub minimal_sub : (N : ℕ) (m : List ℕ) → Sub (minimal_below N W H B m) m
  unfolding minimal_below
  minimal_sub N m = sizes_sub (up_to N) m

  pub minimal-length : (N : ℕ) (m : List ℕ) → length (minimal_below N W H B m) ≡ length m
  unfolding minimal_below
  minimal-length N m = sizes-length (up_to N) m

  pub minimal_done : (N n i : ℕ) (m : List ℕ) → n < N → i < W * H → get_or (minimal_below N W H B m) i 0 ≡ suc n
      → T (is_redundant W H B n (minimal_below N W H B m) i) → ⊥
  unfolding minimal_below
  minimal_done N n i m h l = sizes_done (subst (λ (j : ℕ). Memᴰ j (up_to N)) (zero-add n) (mem-row (λ j. j) 0 N n h)) i l m

  pub minimal-covered : (N : ℕ) (m : List ℕ) (z : Point) → T (covered W H B m z) → T (covered W H B (minimal_below N W H B m) z)
  unfolding minimal_below
  minimal-covered N m z t = sizes-covered (up_to N) m z t

  -- ---- what is not redundant is never dropped

  module _ (m₀ : List ℕ) (i : ℕ) (own : (n : ℕ) → get_or m₀ i 0 ≡ suc n → T (is_redundant W H B n m₀ i) → ⊥) where
    -- still to be walked: a map with fewer points that has m₀'s label at i
    abbrev Keeps : List ℕ → Type 0
    Keeps m = Sub m m₀ × (get_or m i 0 ≡ get_or m₀ i 0)

    drop_keeps : (n k : ℕ) (m : List ℕ) → Keeps m → Keeps (drop_at W H B n m k)
    unfolding drop_at
    drop_keeps n k m q = go (eqb (get_or m k 0) (suc n) && is_redundant W H B n m k) refl
      where
        by : T (eqb (get_or m k 0) (suc n) && is_redundant W H B n m k) → Dec (i ≡ k) → get_or (set m k 0) i 0 ≡ get_or m₀ i 0
        by u (no h) = get_or-set_other m k i 0 0 h ∙ q.1
        by u (yes h) =
            let e = eqb→eq (get_or m k 0) (suc n) (and_l (eqb (get_or m k 0) (suc n)) (is_redundant W H B n m k) u) in
            let t = redundant_sub m m₀ q.0 n k (and_r (eqb (get_or m k 0) (suc n)) (is_redundant W H B n m k) u) in
            absurd (own n (sym q.1 ∙ ap (λ (j : ℕ). get_or m j 0) h ∙ e) (subst (λ (j : ℕ). T (is_redundant W H B n m₀ j)) (sym h) t))

        go : (b : Bool) → (eqb (get_or m k 0) (suc n) && is_redundant W H B n m k) ≡ b → Keeps (cond b (set m k 0) m)
        go true p = (sub_trans (set m k 0) m m₀ (set_sub m k) q.0, by (subst T (sym p) tt) (ℕ_discrete i k))
        go false p = q

    size_keeps : (n : ℕ) (is m : List ℕ) → Keeps m → Keeps (drop_size W H B n is m)
    unfolding drop_size
    size_keeps n [] m q = q
    size_keeps n (k ∷ is) m q = size_keeps n is (drop_at W H B n m k) (drop_keeps n k m q)

    sizes-keep : (ns m : List ℕ) → Keeps m → Keeps (drop_sizes W H B ns m)
    unfolding drop_sizes
    sizes-keep [] m q = q
    sizes-keep (n ∷ ns) m q = sizes-keep ns (drop_size W H B n (up_to (W * H)) m) (size_keeps n (up_to (W * H)) m q)

    pub minimal_keeps : (N : ℕ) → get_or (minimal_below N W H B m₀) i 0 ≡ get_or m₀ i 0
    unfolding minimal_below
    minimal_keeps N = (sizes-keep (up_to N) m₀ (sub_refl m₀, refl)).1

  -- ---- a point left covers a pixel alone

  not_all-out : (p : Point → Bool) (l : List Point) → T (not (every_of p l)) → (a : Point) × Memᴰ a l × T (not (p a))
  not_all-out p [] t = absurd t
  not_all-out p (x ∷ l) t = go (p x) refl (not_all-out p l)
    where
      go : (b : Bool) → p x ≡ b → (T (not (every_of p l)) → (a : Point) × Memᴰ a l × T (not (p a)))
          → (a : Point) × Memᴰ a (x ∷ l) × T (not (p a))
      go true q rest = let r = rest (subst (λ (b : Bool). T (not (b && every_of p l))) q t) in (r.0, Memᴰ.tail r.1, r.2)
      go false q rest = (x, Memᴰ.head refl, subst (λ (b : Bool). T (not b)) (sym q) tt)

  -- a point that is not redundant has a pixel that is lost with it
  pub own-pixel : (m : List ℕ) (i n : ℕ) → i < W * H → get_or m i 0 ≡ suc n → (T (is_redundant W H B n m i) → ⊥)
      → (z : Point) × T (covered W H B m z) × (T (covered W H B (set m i 0) z) → ⊥)
  unfolding is_redundant stamp
  own-pixel m i n h e f =
      let r = not_all-out (λ b. some_of (other W B m i (place W i ⊞ b)) (up_to (W * H))) (times B n) (not_T (is_redundant W H B n m i) f) in
      let b = r.0 in
      let z = place W i ⊞ b in
      let k = subst (λ (j : ℕ). Memᴰ j (up_to (W * H))) (zero-add i) (mem-row (λ j. j) 0 (W * H) i h) in (
        z,
        any_in (covers W B m z) k
            (subst (λ (v : ℕ). T (stamp B 0 (place W i) v z)) (sym e)
            (and_in (leb 0 n) (some_of (λ c. same_point z (place W i ⊞ c)) (times B n)) (le→leb 0 n zero-le) (any_in (λ c. same_point z (place W i ⊞ c)) r.1 (same_refl z)))),
        (λ t.
            let q = any_out (covers W B (set m i 0) z) (up_to (W * H)) t in
            lost z r.2 q.0 q.1 q.2 (ℕ_discrete q.0 i)),
      )
    where
      lost : (z : Point) → T (not (some_of (other W B m i z) (up_to (W * H)))) → (j : ℕ) → Memᴰ j (up_to (W * H)) → T (covers W B (set m i 0) z j)
          → Dec (j ≡ i) → ⊥
      lost z t j k c (yes q) =
          let o = covers_out (set m i 0) z j c in
          suc-ne-zero o.0 (sym o.2 ∙ ap (λ (s : ℕ). get_or (set m i 0) s 0) q ∙ get_or_dropped m i)
      lost z t j k c (no q) =
          T_not (some_of (other W B m i z) (up_to (W * H))) t
          (any_in (other W B m i z) k (and_in (not (eqb j i)) (covers W B m z j) (not_T (eqb j i) (λ s. q (eqb→eq j i s))) (covers_sub (set m i 0) m (set_sub m i) z j c)))
