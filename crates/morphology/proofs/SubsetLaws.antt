-- Laws of the skeleton subsets, for an element with the origin.
use mathlib.Core.Bool.{Bool, ◌&&◌, cond, false, not, true}
use mathlib.Core.List.Memᴰ
use mathlib.Core.List.{List, Memᴰ}
use mathlib.Core.Logic.{◌↔◌, ◌⊎◌, inl, inr}
use mathlib.Core.Path.{◌∙◌, ◌≡◌, ap, refl, subst, sym}
use Prim.Native.Nat.{◌+◌, ◌-◌, ◌<◌, ◌≤◌, suc, zero, zero-le, ℕ}
use native.Mathlib.Nat.{add-suc, le_of_suc-le-suc, le_refl, not-suc-le-zero, suc-add, suc-ne-zero, zero-add}
use native.Mathlib.Omega.{arith}
use lib.Arith.{lt_of_le-ne}
use lib.Dec.{T, T_not, leb, leb→le, le→leb, nleb→lt}
use Rattle.morphology.specs.Lists.{some_of}
use Rattle.morphology.specs.Morphology.{erode, opening, times}
use Rattle.morphology.specs.Point.{Point, ◌⊞◌, origin, same_point}
use Rattle.morphology.specs.Skeleton.{pick, reconstruct, skeleton_function, skeleton_subset, stamp}
use Rattle.morphology.proofs.MorphologyLaws.{◌⊆◌, dilate_in, dilate-out, erode_sub, erode-times, eroded_open, eroded-suc, eroded-zero, open-below, open_mono, open_sub, open-zero, set_ext, sum_in, times-suc, ⊆_of_eq}
use Rattle.morphology.proofs.PointLaws.{assoc, comm, same_eq, same_refl, unit}
use Rattle.morphology.proofs.TestLaws.{and_in, and_l, and_r, any_in, any_out, decide}

pub pick_in : (p : ℕ → Bool) (N n : ℕ) → n < N → T (p n) → ((m : ℕ) → T (p m) → m ≡ n) → pick p N ≡ suc n
unfolding pick
pick_in p zero n h t u = absurd (not-suc-le-zero h)
pick_in p (suc N) n h t u = go (pick_in p N n) (p N) refl
  where
    go : (n < N → T (p n) → ((m : ℕ) → T (p m) → m ≡ n) → pick p N ≡ suc n) → (b : Bool) → p N ≡ b → cond b (suc N) (pick p N) ≡ suc n
    go rest true e = ap suc (u N (rw e tt))
    go rest false e = rest (lt_of_le-ne (le_of_suc-le-suc h) (λ q. subst T e (subst (λ (i : ℕ). T (p i)) q t))) t u

pub pick_out : (p : ℕ → Bool) (N n : ℕ) → pick p N ≡ suc n → T (p n) × (n < N)
unfolding pick
pick_out p zero n e = absurd (suc-ne-zero n (sym e))
pick_out p (suc N) n e = go (pick_out p N n) (p N) refl e
  where
    go : (pick p N ≡ suc n → T (p n) × (n < N)) → (b : Bool) → p N ≡ b → cond b (suc N) (pick p N) ≡ suc n → T (p n) × (n < suc N)
    go rest true q r = let q' : N ≡ n = omega arith in (subst (λ (i : ℕ). T (p i)) q' (rw q tt), omega arith)
    go rest false q r = let s = rest r in (s.0, omega (arith, s.1))

-- ---- reconstruction: its members

module _ (P B : List Point) where
  pub reconstruct_in : (k n : ℕ) (M : Point → ℕ) (p c : Point) → Memᴰ p P → M p ≡ suc n → k ≤ n → Memᴰ c (times B n)
      → T (reconstruct P B k M (p ⊞ c))
  unfolding reconstruct stamp
  reconstruct_in k n M p c m e h l =
      any_in (λ q. stamp B k q (M q) (p ⊞ c)) m
      (subst (λ (i : ℕ). T (stamp B k p i (p ⊞ c))) (sym e)
      (and_in (leb k n) (some_of (λ d. same_point (p ⊞ c) (p ⊞ d)) (times B n)) (le→leb k n h) (any_in (λ d. same_point (p ⊞ c) (p ⊞ d)) l (same_refl (p ⊞ c)))))

  pub stamp-out : (k : ℕ) (p : Point) (l : ℕ) (z : Point) → T (stamp B k p l z)
      → (n : ℕ) × (c : Point) × (l ≡ suc n) × (k ≤ n) × Memᴰ c (times B n) × (z ≡ p ⊞ c)
  unfolding stamp
  stamp-out k p zero z t = absurd t
  stamp-out k p (suc n) z t =
      let r = any_out (λ d. same_point z (p ⊞ d)) (times B n) (and_r (leb k n) (some_of (λ d. same_point z (p ⊞ d)) (times B n)) t) in
      (n, r.0, refl, leb→le k n (and_l (leb k n) (some_of (λ d. same_point z (p ⊞ d)) (times B n)) t), r.1, same_eq z (p ⊞ r.0) r.2)

  pub reconstruct-out : (k : ℕ) (M : Point → ℕ) (z : Point) → T (reconstruct P B k M z)
      → (p : Point) × (n : ℕ) × (c : Point) × (M p ≡ suc n) × (k ≤ n) × Memᴰ c (times B n) × (z ≡ p ⊞ c)
  unfolding reconstruct
  reconstruct-out k M z t =
      let r = any_out (λ q. stamp B k q (M q) z) P t in
      let q = stamp-out k r.0 (M r.0) z r.2 in
      (r.0, q.0, q.1, q.2, q.3, q.4, q.5)

module _ (B : List Point) (ob : Memᴰ origin B) where
  pub origin-times : (n : ℕ) → Memᴰ origin (times B n)
  unfolding times
  origin-times zero = Memᴰ.head refl
  origin-times (suc n) = Memᴰ.cast (sym (unit origin)) (sum_in (times B n) B (origin-times n) ob)

  pub eroded-down : (X : Point → Bool) (n m : ℕ) → n ≤ m → erode (times B m) X ⊆ erode (times B n) X
  eroded-down X n m h z t =
      let e : m ≡ (m - n) + n = omega arith in
      erode_sub (times B (m - n)) (erode (times B n) X) (origin-times (m - n)) z
      (⊆_of_eq (ap (λ (i : ℕ). erode (times B i) X) e ∙ erode-times B (m - n) n X) z t)

  -- a point of size n is in X(n) and not in X(n + 1)
  pub subset_in : (X : Point → Bool) (n : ℕ) (z : Point) → T (skeleton_subset B X n z) → T (erode (times B n) X z)
  unfolding skeleton_subset
  subset_in X n z t = and_l (erode (times B n) X z) (not (opening B (erode (times B n) X) z)) t

  pub subset-not : (X : Point → Bool) (n : ℕ) (z : Point) → T (skeleton_subset B X n z) → T (erode (times B (suc n)) X z) → ⊥
  unfolding skeleton_subset opening
  subset-not X n z t u =
      let Y = erode (times B n) X in
      T_not (opening B Y z) (and_r (Y z) (not (opening B Y z)) t)
      (subst (λ (y : Point). T (opening B Y y)) (unit z) (dilate_in B (erode B Y) z origin (⊆_of_eq (eroded-suc B n X) z u) ob))

  -- no point has two sizes
  pub subset_disjoint : (X : Point → Bool) (n m : ℕ) (z : Point) → T (skeleton_subset B X n z) → T (skeleton_subset B X m z) → n ≡ m
  subset_disjoint X n m z s t =
      let lo : ¬ (n < m) = λ h. subset-not X n z s (eroded-down X (suc n) m h z (subset_in X m z t)) in
      let hi : ¬ (m < n) = λ h. subset-not X m z t (eroded-down X (suc m) n h z (subset_in X n z s)) in
      omega arith

  -- ---- labels
  pub label_of : (X : Point → Bool) (N n : ℕ) (z : Point) → n < N → T (skeleton_subset B X n z) → skeleton_function B X N z ≡ suc n
  unfolding skeleton_function
  label_of X N n z h t = pick_in (λ m. skeleton_subset B X m z) N n h t (λ m s. subset_disjoint X m n z s t)

  pub of-label : (X : Point → Bool) (N n : ℕ) (z : Point) → skeleton_function B X N z ≡ suc n → T (skeleton_subset B X n z) × (n < N)
  unfolding skeleton_function
  of-label X N n z e = pick_out (λ m. skeleton_subset B X m z) N n e

  -- ---- rebuilding
  pub opened-down : (X : Point → Bool) (k n : ℕ) → k ≤ n → opening (times B n) X ⊆ opening (times B k) X
  opened-down X k n h z t =
      open_mono (times B k) (opening (times B n) X) X (open_sub (times B n) X) z (⊆_of_eq (sym (open-below B n k X h)) z t)

  module _ (P : List Point) (X : Point → Bool) (N : ℕ) (in_p : (z : Point) → T (X z) → Memᴰ z P) (gone : (z : Point) → T (erode (times B N) X z) → ⊥) where
    climb : (k d n : ℕ) → d + n ≡ N → k ≤ n → (x c : Point) → T (erode (times B n) X x) → Memᴰ c (times B n)
        → T (reconstruct P B k (skeleton_function B X N) (x ⊞ c))
    unfolding opening skeleton_subset
    climb k zero n e h x c t m = absurd (gone x (subst (λ (i : ℕ). T (erode (times B i) X x)) (sym (zero-add n) ∙ e) t))
    climb k (suc d) n e h x c t m = go (climb k d (suc n) (add-suc d n ∙ sym (suc-add d n) ∙ e) (omega arith)) (decide (opening B (erode (times B n) X) x))
      where
        go : ((y c : Point) → T (erode (times B (suc n)) X y) → Memᴰ c (times B (suc n)) → T (reconstruct P B k (skeleton_function B X N) (y ⊞ c)))
            → T (opening B (erode (times B n) X) x) ⊎ T (not (opening B (erode (times B n) X) x))
            → T (reconstruct P B k (skeleton_function B X N) (x ⊞ c))
        go up (inl u) =
            let r = dilate-out B (erode B (erode (times B n) X)) x u in
            subst (λ (y : Point). T (reconstruct P B k (skeleton_function B X N) y))
            (ap (λ (w : Point). r.0 ⊞ w) (comm c r.1) ∙ sym (assoc r.0 r.1 c) ∙ ap (λ (w : Point). w ⊞ c) (sym r.4))
            (up r.0 (c ⊞ r.1) (⊆_of_eq (sym (eroded-suc B n X)) r.0 r.2) (times-suc B n m r.3))
        go up (inr u) =
            let h' : n < N = omega (arith, suc-add d n) in
            reconstruct_in P B k n (skeleton_function B X N) x c (in_p x (⊆_of_eq (eroded-zero B X) x (eroded-down X 0 n zero-le x t)))
            (label_of X N n x h' (and_in (erode (times B n) X x) (not (opening B (erode (times B n) X) x)) t u)) h m

    reconstruct_sub_open : (k : ℕ) → reconstruct P B k (skeleton_function B X N) ⊆ opening (times B k) X
    unfolding opening
    reconstruct_sub_open k z t =
        let r = reconstruct-out P B k (skeleton_function B X N) z t in
        opened-down X k r.1 r.4 z
        (subst (λ (y : Point). T (opening (times B r.1) X y)) (sym r.6)
        (dilate_in (times B r.1) (erode (times B r.1) X) r.0 r.2 (subset_in X r.1 r.0 (of-label X N r.1 r.0 r.3).0) r.5))

    open_sub-reconstruct : (k : ℕ) → opening (times B k) X ⊆ reconstruct P B k (skeleton_function B X N)
    unfolding opening
    open_sub-reconstruct k z t =
        let r = dilate-out (times B k) (erode (times B k) X) z t in
        subst (λ (y : Point). T (reconstruct P B k (skeleton_function B X N) y)) (sym r.4) (go r (decide (leb k N)))
      where
        go : (r : (x c : Point) × T (erode (times B k) X x) × Memᴰ c (times B k) × (z ≡ x ⊞ c)) → T (leb k N) ⊎ T (not (leb k N))
            → T (reconstruct P B k (skeleton_function B X N) (r.0 ⊞ r.1))
        go r (inl u) = let h = leb→le k N u in climb k (N - k) k (omega arith) (le_refl k) r.0 r.1 r.2 r.3
        go r (inr u) = let h = nleb→lt k N u in absurd (gone r.0 (eroded-down X N k (omega arith) r.0 r.2))

    -- rebuilding the map of X at cut k is opening X by kB
    pub reconstruct_open : (k : ℕ) → reconstruct P B k (skeleton_function B X N) ≡ opening (times B k) X
    reconstruct_open k = set_ext (reconstruct_sub_open k) (open_sub-reconstruct k)

    pub reconstruct_exact : reconstruct P B 0 (skeleton_function B X N) ≡ X
    reconstruct_exact = reconstruct_open 0 ∙ open-zero B X

  -- the sizes from k on are those of X
  pub subset_open : (X : Point → Bool) (k n : ℕ) → k ≤ n → skeleton_subset B (opening (times B k) X) n ≡ skeleton_subset B X n
  unfolding skeleton_subset
  subset_open X k n h = ap (λ (Y : Point → Bool). λ z. Y z && not (opening B Y z)) (eroded_open B k n X h)

  -- the labels above k are those of X
  pub label_open : (X : Point → Bool) (N k n : ℕ) (z : Point) → k ≤ n
      → (skeleton_function B (opening (times B k) X) N z ≡ suc n) ↔ (skeleton_function B X N z ≡ suc n)
  label_open X N k n z h = (
    (λ e. let r = of-label (opening (times B k) X) N n z e in label_of X N n z r.1 (⊆_of_eq (subset_open X k n h) z r.0)),
    (λ e. let r = of-label X N n z e in label_of (opening (times B k) X) N n z r.1 (⊆_of_eq (sym (subset_open X k n h)) z r.0)),
  )
