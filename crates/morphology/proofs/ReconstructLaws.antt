-- Reconstruction by descending dilation: from the largest size down to the cut each size is joined and dilated once, then the cut's dilations follow.
-- A map is wild exactly when what it reconstructs at cut 0 has a point off the frame; of any other nothing is clipped.
use mathlib.Core.Bool.{Bool, ◌&&◌, ◌||◌, cond, false, not, true}
use mathlib.Core.List.Memᴰ
use mathlib.Core.List.{List, Memᴰ}
use mathlib.Core.Logic.{◌⊎◌, inl, inr}
use mathlib.Core.Path.{◌∙◌, ◌≡◌, ap, refl, subst, sym}
use Prim.Native.Nat.{◌*◌, ◌+◌, ◌-◌, ◌<◌, ◌≤◌, suc, zero, zero-le, ℕ}
use native.Mathlib.Decide.{dec_lt}
use native.Mathlib.Nat.{le_refl, suc-ne-zero}
use native.Mathlib.Omega.{arith}
use lib.Dec.{T, T_not, eqb, eqb_refl, eqb→eq, leb, leb→le, le→leb, ltb, ltb→lt, lt→ltb}
use lib.IntN.{negsuc, pos, ℤ}
use lib.ListN.{get_or}
use Rattle.morphology.specs.Image.{on_frame}
use Rattle.morphology.specs.Labels.{label_at, places}
use Rattle.morphology.specs.Lists.{greatest, some_of}
use Rattle.morphology.specs.Morphology.{dilate, times}
use Rattle.morphology.specs.Partial.{partial_stamp, partial_union}
use Rattle.morphology.specs.Point.{Point, ◌⊞◌, at, origin, same_point}
use Rattle.morphology.specs.Refusals.{is_wild, leaves}
use Rattle.morphology.specs.Skeleton.{reconstruct, reconstruction}
use Rattle.morphology.proofs.ElementLaws.{Element}
use Rattle.morphology.proofs.FrameLaws.{OnFrame, on_in, on_out}
use Rattle.morphology.proofs.LabelLaws.{in-places, label_at_le, of_places}
use Rattle.morphology.proofs.MorphologyLaws.{◌⊆◌, dilate_in, dilate_sub, dilate-sum, dilate-zero, set_ext, sum_in, sum-out, times_add, times-suc}
use Rattle.morphology.proofs.PlaneLaws.{Empty}
use Rattle.morphology.proofs.PointLaws.{assoc, same_eq, same_refl, unit}
use Rattle.morphology.proofs.RefusalLaws.{false_of}
use Rattle.morphology.proofs.SubsetLaws.{origin-times, reconstruct_in, reconstruct-out}
use Rattle.morphology.proofs.TestLaws.{and_in, and_l, and_r, any_in, any_out, decide, or_l, or-out, or_r, some-not}

-- ---- n-fold elements

-- dilating by (n + 1)B is one dilation more
pub dilated-suc : (B : List Point) (n : ℕ) (X : Point → Bool) → dilate (times B (suc n)) X ≡ dilate B (dilate (times B n) X)
unfolding times
dilated-suc B n X = dilate-sum (times B n) B X

-- with the origin in B, nB lies in mB for n ≤ m
pub times_mono : (B : List Point) → Memᴰ origin B → (n m : ℕ) {c : Point} → n ≤ m → Memᴰ c (times B n) → Memᴰ c (times B m)
times_mono B ob n m {c} h k =
    let e : n + (m - n) ≡ m = omega arith in
    subst (λ (i : ℕ). Memᴰ c (times B i)) e
    (Memᴰ.cast (sym (unit c)) ((times_add B n (m - n)).to (sum_in (times B n) (times B (m - n)) k (origin-times B ob (m - n)))))

-- ---- the union that is still to be dilated n times

stamp-at : (B : List Point) (n : ℕ) (p : Point) (l : ℕ) (z : Point) → T (partial_stamp B n p l z)
    → (j : ℕ) × (c : Point) × (l ≡ suc j) × (n ≤ j) × Memᴰ c (times B (j - n)) × (z ≡ p ⊞ c)
unfolding partial_stamp
stamp-at B n p zero z t = absurd t
stamp-at B n p (suc j) z t =
    let s = some_of (λ c. same_point z (p ⊞ c)) (times B (j - n)) in
    let r = any_out (λ c. same_point z (p ⊞ c)) (times B (j - n)) (and_r (leb n j) s t) in
    (j, r.0, refl, leb→le n j (and_l (leb n j) s t), r.1, same_eq z (p ⊞ r.0) r.2)

module _ (W H : ℕ) (B : List Point) (M : Point → ℕ) where
  pub partial_in : (n j : ℕ) {p c : Point} → Memᴰ p (places W H) → M p ≡ suc j → n ≤ j → Memᴰ c (times B (j - n))
      → T (partial_union W H B n M (p ⊞ c))
  unfolding partial_union partial_stamp
  partial_in n j {p} {c} m e h k =
      any_in (λ q. partial_stamp B n q (M q) (p ⊞ c)) m
      (subst (λ (l : ℕ). T (partial_stamp B n p l (p ⊞ c))) (sym e)
      (and_in (leb n j) (some_of (λ d. same_point (p ⊞ c) (p ⊞ d)) (times B (j - n))) (le→leb n j h) (any_in (λ d. same_point (p ⊞ c) (p ⊞ d)) k (same_refl (p ⊞ c)))))

  pub partial-out : (n : ℕ) (z : Point) → T (partial_union W H B n M z)
      → (p : Point) × (j : ℕ) × (c : Point) × Memᴰ p (places W H) × (M p ≡ suc j) × (n ≤ j) × Memᴰ c (times B (j - n)) × (z ≡ p ⊞ c)
  unfolding partial_union
  partial-out n z t =
      let r = any_out (λ q. partial_stamp B n q (M q) z) (places W H) t in
      let q = stamp-at B n r.0 (M r.0) z r.2 in
      (r.0, q.0, q.1, r.1, q.2, q.3, q.4, q.5)

  -- above the largest label it is empty
  pub partial-top : (N n : ℕ) → ((p : Point) → M p ≤ N) → N ≤ n → Empty (partial_union W H B n M)
  partial-top N n f h z t =
      let r = partial-out n z t in
      omega (arith, f r.0, r.4, r.5)

  module _ (on_p : (p : Point) (j : ℕ) → M p ≡ suc j → Memᴰ p (places W H)) where
    -- a turn downwards: dilate once, join the points of size n
    pub partial_turn : (n : ℕ) → partial_union W H B n M ≡ (λ z. eqb (M z) (suc n) || dilate B (partial_union W H B (suc n) M) z)
    unfolding times
    partial_turn n = set_ext to fro
      where
        Y : Point → Bool
        Y = dilate B (partial_union W H B (suc n) M)

        U : Point → Bool
        U z = eqb (M z) (suc n) || Y z

        more : (p c : Point) (j : ℕ) → Memᴰ p (places W H) → M p ≡ suc j → n < j
            → (a b : Point) × Memᴰ a (times B (j - suc n)) × Memᴰ b B × (c ≡ a ⊞ b) → T (U (p ⊞ c))
        more p c j m e l r =
            or_r (eqb (M (p ⊞ c)) (suc n)) (Y (p ⊞ c))
            (subst (λ (y : Point). T (Y y)) (assoc p r.0 r.1 ∙ ap (λ (d : Point). p ⊞ d) (sym r.4))
            (dilate_in B (partial_union W H B (suc n) M) (p ⊞ r.0) r.1 (partial_in (suc n) j m e l r.2) r.3))

        by : (p c : Point) (j : ℕ) → Memᴰ p (places W H) → M p ≡ suc j → n ≤ j → Memᴰ c (times B (j - n)) → Dec (n < j) → T (U (p ⊞ c))
        by p c j m e h k (yes l) =
            let q : j - n ≡ suc (j - suc n) = omega arith in
            more p c j m e l (sum-out (times B (j - suc n)) B (subst (λ (i : ℕ). Memᴰ c (times B i)) q k))
        by p c j m e h k (no l) =
            let q : j - n ≡ 0 = omega arith in
            let w : j ≡ n = omega arith in
            let o = Memᴰ.eq_of_singleton (subst (λ (i : ℕ). Memᴰ c (times B i)) q k) in
            let s = sym (ap (λ (d : Point). p ⊞ d) o ∙ unit p) in
            subst (λ (y : Point). T (U y)) s
            (or_l (eqb (M p) (suc n)) (Y p) (subst (λ (v : ℕ). T (eqb v (suc n))) (sym (e ∙ ap suc w)) (eqb_refl (suc n))))

        to : partial_union W H B n M ⊆ U
        to z t =
            let r = partial-out n z t in
            subst (λ (y : Point). T (U y)) (sym r.7) (by r.0 r.2 r.1 r.3 r.4 r.5 r.6 (dec_lt n r.1))

        zero_less : n - n ≡ 0
        zero_less = omega arith

        back : (z : Point) → T (eqb (M z) (suc n)) ⊎ T (Y z) → T (partial_union W H B n M z)
        back z (inl t) =
            let e = eqb→eq (M z) (suc n) t in
            subst (λ (y : Point). T (partial_union W H B n M y)) (unit z)
            (partial_in n n (on_p z n e) e (le_refl n) (subst (λ (i : ℕ). Memᴰ origin (times B i)) (sym zero_less) (Memᴰ.head refl)))
        back z (inr t) =
            dilate_sub B (partial_union W H B (suc n) M) (partial_union W H B n M) (λ x b u k.
            let r = partial-out (suc n) x u in
            let j = r.1 in
            let h = r.5 in
            let q : suc (j - suc n) ≡ j - n = omega arith in
            subst (λ (y : Point). T (partial_union W H B n M y)) (sym (assoc r.0 r.2 b) ∙ ap (λ (y : Point). y ⊞ b) (sym r.7))
            (partial_in n j r.3 r.4 (omega arith) (subst (λ (i : ℕ). Memᴰ (r.2 ⊞ b) (times B i)) q (times-suc B (j - suc n) r.6 k))))
            z t

        fro : U ⊆ partial_union W H B n M
        fro z t = back z (or-out (eqb (M z) (suc n)) (Y z) t)

    -- k dilations of it are the reconstruction at cut k
    pub partial-dilated : Memᴰ origin B → (k : ℕ) → dilate (times B k) (partial_union W H B k M) ≡ reconstruct (places W H) B k M
    partial-dilated ob k = set_ext
        (dilate_sub (times B k) (partial_union W H B k M) R (λ x b u l.
        let r = partial-out k x u in
        let j = r.1 in
        let h = r.5 in
        let q : (j - k) + k ≡ j = omega arith in
        subst (λ (y : Point). T (R y)) (sym (assoc r.0 r.2 b) ∙ ap (λ (y : Point). y ⊞ b) (sym r.7))
        (reconstruct_in (places W H) B k j M r.0 (r.2 ⊞ b) r.3 r.4 h
        (subst (λ (i : ℕ). Memᴰ (r.2 ⊞ b) (times B i)) q ((times_add B (j - k) k).to (sum_in (times B (j - k)) (times B k) r.6 l))))))
        (λ z t.
        let r = reconstruct-out (places W H) B k M z t in
        let p = r.0 in
        let j = r.1 in
        let h = r.4 in
        let q : j ≡ (j - k) + k = omega arith in
        let s = sum-out (times B (j - k)) (times B k) ((times_add B (j - k) k).fro (subst (λ (i : ℕ). Memᴰ r.2 (times B i)) q r.5)) in
        subst (λ (y : Point). T (dilate (times B k) (partial_union W H B k M) y)) (assoc p s.0 s.1 ∙ ap (λ (d : Point). p ⊞ d) (sym s.4) ∙ sym r.6)
        (dilate_in (times B k) (partial_union W H B k M) (p ⊞ s.0) s.1 (partial_in k j (on_p p j r.3) r.3 h s.2) s.3))
      where
        R : Point → Bool
        R = reconstruct (places W H) B k M

-- ---- label buffers

-- a label stands on the frame
pub label_on : (W H : ℕ) (m : List ℕ) (p : Point) (j : ℕ) → label_at W H m p ≡ suc j → Memᴰ p (places W H)
unfolding label_at
label_on W H m p j e = by p.x p.y e
  where
    by : (x y : ℤ) → label_at W H m (at x y) ≡ suc j → Memᴰ (at x y) (places W H)
    by (pos x) (pos y) q = go (ltb x W && ltb y H) refl q
      where
        go : (b : Bool) → (ltb x W && ltb y H) ≡ b → cond b (get_or m (y * W + x) 0) 0 ≡ suc j → Memᴰ (at (pos x) (pos y)) (places W H)
        go true s r =
            let t = subst T (sym s) tt in
            in-places W H x y (ltb→lt x W (and_l (ltb x W) (ltb y H) t)) (ltb→lt y H (and_r (ltb x W) (ltb y H) t))
        go false s r = absurd (suc-ne-zero j (sym r))
    by (pos x) (negsuc y) q = absurd (suc-ne-zero j (sym q))
    by (negsuc x) y q = absurd (suc-ne-zero j (sym q))

module _ (W H : ℕ) (B : List Point) (el : Element B) (m : List ℕ) where
  abbrev union_at : ℕ → (Point → Bool)
  union_at n = partial_union W H B n (label_at W H m)

  pub union_turn : (n : ℕ) → union_at n ≡ (λ z. eqb (label_at W H m z) (suc n) || dilate B (union_at (suc n)) z)
  union_turn n = partial_turn W H B (label_at W H m) (label_on W H m) n

  pub union-dilated : (k : ℕ) → dilate (times B k) (union_at k) ≡ reconstruction W H B k m
  unfolding reconstruction
  union-dilated k = partial-dilated W H B (label_at W H m) (label_on W H m) el.centred k

  -- ---- maps with a point that leaves the frame

  -- a map is wild where a point that it reconstructs at cut 0 lies off the frame
  pub wild_in : (z : Point) → T (reconstruction W H B 0 m z) → T (not (on_frame W H z)) → T (is_wild W H B m)
  unfolding reconstruction is_wild leaves
  wild_in z t o =
      let r = reconstruct-out (places W H) B 0 (label_at W H m) z t in
      let p = r.0 in
      let off : Point → Bool = λ b. not (on_frame W H (p ⊞ b)) in
      any_in (λ q. leaves W H B q (label_at W H m q)) (label_on W H m p r.1 r.3)
      (subst (λ (v : ℕ). T (leaves W H B p v)) (sym r.3)
      (subst T (some-not (λ b. on_frame W H (p ⊞ b)) (times B r.1)) (any_in off r.5 (subst (λ (y : Point). T (not (on_frame W H y))) r.6 o))))

  -- and only there
  pub wild-out : T (is_wild W H B m) → (z : Point) × T (reconstruction W H B 0 m z) × T (not (on_frame W H z))
  unfolding reconstruction is_wild leaves
  wild-out t =
      let r = any_out (λ q. leaves W H B q (label_at W H m q)) (places W H) t in
      by r.0 (label_at W H m r.0) refl r.2
    where
      by : (p : Point) (v : ℕ) → label_at W H m p ≡ v → T (leaves W H B p v) → (z : Point) × T (reconstruction W H B 0 m z) × T (not (on_frame W H z))
      by p zero q t = absurd t
      by p (suc n) q t =
          let f : Point → Bool = λ b. on_frame W H (p ⊞ b) in
          let s = any_out (λ b. not (f b)) (times B n) (subst T (sym (some-not f (times B n))) t) in
          (p ⊞ s.0, reconstruct_in (places W H) B 0 n (label_at W H m) p s.0 (label_on W H m p n q) q zero-le s.1, s.2)

  pub tame_on : OnFrame W H (reconstruction W H B 0 m) → is_wild W H B m ≡ false
  tame_on on = false_of (is_wild W H B m) (λ t.
      let r = wild-out t in
      T_not (on_frame W H r.0) r.2 (on_out W H (reconstruction W H B 0 m) on r.0 r.1))

  -- nor is one whose points all have size 0: each stays where it is
  pub dots-tame : greatest m ≤ 1 → is_wild W H B m ≡ false
  unfolding reconstruction times
  dots-tame h = tame_on (on_in W H (reconstruction W H B 0 m) (λ z t.
      let r = reconstruct-out (places W H) B 0 (label_at W H m) z t in
      by r.0 r.1 r.3 r.5 r.6))
    where
      by : (p : Point) (n : ℕ) {c z : Point} → label_at W H m p ≡ suc n → Memᴰ c (times B n) → z ≡ p ⊞ c → T (on_frame W H z)
      by p zero q l e =
          let o = of_places W H (label_on W H m p 0 q) in
          subst (λ (y : Point). T (on_frame W H y)) (sym (e ∙ ap (λ (c : Point). p ⊞ c) (Memᴰ.eq_of_singleton l) ∙ unit p ∙ o.4))
          (and_in (ltb o.0 W) (ltb o.1 H) (lt→ltb o.0 W o.2) (lt→ltb o.1 H o.3))
      by p (suc n) q l e = absurd (omega (arith, label_at_le W H m p))

  module _ (tame : is_wild W H B m ≡ false) where
    -- a point dilated to its size stays on the frame
    pub point_on : (p : Point) (j : ℕ) {c : Point} → label_at W H m p ≡ suc j → Memᴰ c (times B j) → T (on_frame W H (p ⊞ c))
    unfolding reconstruction
    point_on p j {c} q l = by (decide (on_frame W H (p ⊞ c)))
      where
        by : T (on_frame W H (p ⊞ c)) ⊎ T (not (on_frame W H (p ⊞ c))) → T (on_frame W H (p ⊞ c))
        by (inl t) = t
        by (inr t) =
            absurd (subst T tame (wild_in (p ⊞ c) (reconstruct_in (places W H) B 0 j (label_at W H m) p c (label_on W H m p j q) q zero-le l) t))

    -- no union leaves the frame, nor one of its n dilations: nothing is ever clipped
    pub union_on : (n i : ℕ) → i ≤ n → OnFrame W H (dilate (times B i) (union_at n))
    union_on n i l = on_in W H (dilate (times B i) (union_at n)) (dilate_sub (times B i) (union_at n) (on_frame W H) (λ x b u g.
        let r = partial-out W H B (label_at W H m) n x u in
        let j = r.1 in
        let o = r.5 in
        subst (λ (y : Point). T (on_frame W H y)) (sym (assoc r.0 r.2 b) ∙ ap (λ (y : Point). y ⊞ b) (sym r.7))
        (point_on r.0 j r.4
        (times_mono B el.centred ((j - n) + i) j (omega arith) ((times_add B (j - n) i).to (sum_in (times B (j - n)) (times B i) r.6 g))))))

    pub union-at_on : (n : ℕ) → OnFrame W H (union_at n)
    union-at_on n = subst (OnFrame W H) (dilate-zero B (union_at n)) (union_on n 0 zero-le)

    -- and at no cut does a reconstruction
    pub reconstruction_on : (k : ℕ) → OnFrame W H (reconstruction W H B k m)
    reconstruction_on k = subst (OnFrame W H) (union-dilated k) (union_on k k (le_refl k))
