-- Laws of erosion, dilation and opening, in the order of the definitions.
use mathlib.Core.Bool.{Bool, not}
use mathlib.Core.List.Memᴰ
use mathlib.Core.List.{List, Memᴰ, [], ◌∷◌, map}
use mathlib.Core.Logic.{◌⊎◌, inl, inr}
use mathlib.Core.Path.{◌∙◌, ◌≡◌, ap, fun_ext, refl, subst, sym}
use Prim.Native.Nat.{◌+◌, ◌-◌, ◌≤◌, max, suc, zero, ℕ}
use native.Mathlib.Nat.{add-suc, add-zero}
use native.Mathlib.Omega.{arith}
use lib.Dec.{T, leb, leb→le, nleb→lt}
use Rattle.morphology.specs.Morphology.{dilate, erode, minkowski, opening, times}
use Rattle.morphology.specs.Point.{Point, ◌⊞◌, minus, origin}
use Rattle.morphology.proofs.PointLaws.{assoc, comm, inv, unit}
use Rattle.morphology.proofs.TestLaws.{T_ext, all_in, all-out, any_in, any_out, decide, map_mem, mem-map}

-- as sets
module _ {G : Type 0} where
  infix 50 ◌⊆◌
  abbrev pub ◌⊆◌ : (G → Bool) → (G → Bool) → Type 0
  X ⊆ Y = (z : G) → T (X z) → T (Y z)

  pub set_ext : {X Y : G → Bool} → X ⊆ Y → Y ⊆ X → X ≡ Y
  set_ext f g = fun_ext (λ z. T_ext (f z) (g z))

  pub ⊆_of_eq : {X Y : G → Bool} → X ≡ Y → X ⊆ Y
  ⊆_of_eq e z t = subst (λ (F : G → Bool). T (F z)) e t

  -- two lists with the same elements
  pub record Same (A B : List G) : Type 0 where
    pub to : {a : G} → Memᴰ a A → Memᴰ a B
    pub fro : {a : G} → Memᴰ a B → Memᴰ a A

back : (x b : Point) → x ⊞ b ⊞ minus b ≡ x
back x b = assoc x b (minus b) ∙ ap (λ (k : Point). x ⊞ k) (inv b) ∙ unit x

forth : (x b : Point) → x ⊞ minus b ⊞ b ≡ x
forth x b = assoc x (minus b) b ∙ ap (λ (k : Point). x ⊞ k) (comm (minus b) b ∙ inv b) ∙ unit x

-- ---- membership
pub erode_in : (B : List Point) (X : Point → Bool) (z : Point) → ((b : Point) → Memᴰ b B → T (X (z ⊞ b))) → T (erode B X z)
unfolding erode
erode_in B X z f = all_in (λ b. X (z ⊞ b)) B f

pub erode-out : (B : List Point) (X : Point → Bool) (z : Point) → T (erode B X z) → {b : Point} → Memᴰ b B → T (X (z ⊞ b))
unfolding erode
erode-out B X z t m = all-out (λ b. X (z ⊞ b)) t m

-- with the origin in the element
pub erode_sub : (B : List Point) (X : Point → Bool) → Memᴰ origin B → erode B X ⊆ X
erode_sub B X m z t = subst (λ (y : Point). T (X y)) (unit z) (erode-out B X z t m)

pub dilate_in : (B : List Point) (X : Point → Bool) (x b : Point) → T (X x) → Memᴰ b B → T (dilate B X (x ⊞ b))
unfolding dilate
dilate_in B X x b t m = any_in (λ c. X (x ⊞ b ⊞ minus c)) m (subst (λ (y : Point). T (X y)) (sym (back x b)) t)

pub dilate-out : (B : List Point) (X : Point → Bool) (z : Point) → T (dilate B X z) → (x b : Point) × T (X x) × Memᴰ b B × (z ≡ x ⊞ b)
unfolding dilate
dilate-out B X z t =
    let r = any_out (λ c. X (z ⊞ minus c)) B t in
    (z ⊞ minus r.0, r.0, r.2, r.1, sym (forth z r.0))

-- to show that a grown set lies in Y, show it of each x + b
pub dilate_sub : (B : List Point) (X Y : Point → Bool) → ((x b : Point) → T (X x) → Memᴰ b B → T (Y (x ⊞ b))) → dilate B X ⊆ Y
dilate_sub B X Y f z t = let r = dilate-out B X z t in subst (λ (y : Point). T (Y y)) (sym r.4) (f r.0 r.1 r.2 r.3)

-- ---- the adjunction
pub adj-to : (B : List Point) (X Y : Point → Bool) → dilate B X ⊆ Y → X ⊆ erode B Y
adj-to B X Y f z t = erode_in B Y z (λ b m. f (z ⊞ b) (dilate_in B X z b t m))

pub adj-from : (B : List Point) (X Y : Point → Bool) → X ⊆ erode B Y → dilate B X ⊆ Y
adj-from B X Y f = dilate_sub B X Y (λ x b t m. erode-out B Y x (f x t) m)

pub erode_mono : (B : List Point) (X Y : Point → Bool) → X ⊆ Y → erode B X ⊆ erode B Y
erode_mono B X Y f z t = erode_in B Y z (λ b m. f (z ⊞ b) (erode-out B X z t m))

pub dilate_mono : (B : List Point) (X Y : Point → Bool) → X ⊆ Y → dilate B X ⊆ dilate B Y
dilate_mono B X Y f = dilate_sub B X (dilate B Y) (λ x b t m. dilate_in B Y x b (f x t) m)

pub open_sub : (B : List Point) (X : Point → Bool) → opening B X ⊆ X
unfolding opening
open_sub B X = adj-from B (erode B X) X (λ z t. t)

pub open_mono : (B : List Point) (X Y : Point → Bool) → X ⊆ Y → opening B X ⊆ opening B Y
unfolding opening
open_mono B X Y f = dilate_mono B (erode B X) (erode B Y) (erode_mono B X Y f)

pub erode_open : (B : List Point) (X : Point → Bool) → erode B (opening B X) ≡ erode B X
unfolding opening
erode_open B X = set_ext (erode_mono B (opening B X) X (open_sub B X)) (adj-to B (erode B X) (opening B X) (λ z t. t))

pub open-dilate : (B : List Point) (X : Point → Bool) → opening B (dilate B X) ≡ dilate B X
unfolding opening
open-dilate B X = set_ext (open_sub B (dilate B X)) (dilate_mono B X (erode B (dilate B X)) (adj-to B X (dilate B X) (λ z t. t)))

pub open_idem : (B : List Point) (X : Point → Bool) → opening B (opening B X) ≡ opening B X
unfolding opening
open_idem B X = open-dilate B (erode B X)

-- ---- sums of elements
pub sum_in : (A B : List Point) {a b : Point} → Memᴰ a A → Memᴰ b B → Memᴰ (a ⊞ b) (minkowski A B)
unfolding minkowski
sum_in [] B k m = elim k [ ]
sum_in (x ∷ A) B {b = b} (Memᴰ.head e) m = Memᴰ.append_left (minkowski A B) (Memᴰ.cast (ap (λ (k : Point). k ⊞ b) e) (mem-map (λ c. x ⊞ c) m))
sum_in (x ∷ A) B (Memᴰ.tail k) m = Memᴰ.append_right (map (λ c. x ⊞ c) B) (sum_in A B k m)

pub sum-out : (A B : List Point) {c : Point} → Memᴰ c (minkowski A B) → (a b : Point) × Memᴰ a A × Memᴰ b B × (c ≡ a ⊞ b)
unfolding minkowski
sum-out [] B m = absurd (Memᴰ.not-nil m)
sum-out (x ∷ A) B {c} m = go (sum-out A B) (Memᴰ.append_cases (map (λ b. x ⊞ b) B) m)
  where
    go : (Memᴰ c (minkowski A B) → (a b : Point) × Memᴰ a A × Memᴰ b B × (c ≡ a ⊞ b))
        → Memᴰ c (map (λ b. x ⊞ b) B) ⊎ Memᴰ c (minkowski A B) → (a b : Point) × Memᴰ a (x ∷ A) × Memᴰ b B × (c ≡ a ⊞ b)
    go rest (inl k) = let r = map_mem (λ b. x ⊞ b) B k in (x, r.0, Memᴰ.head refl, r.1, r.2)
    go rest (inr k) = let r = rest k in (r.0, r.1, Memᴰ.tail r.2, r.3, r.4)

-- eroding by a sum is eroding in turn
pub erode-sum : (A B : List Point) (X : Point → Bool) → erode (minkowski A B) X ≡ erode A (erode B X)
erode-sum A B X =
    set_ext
    (λ z t. erode_in A (erode B X) z (λ a k. erode_in B X (z ⊞ a) (λ b m.
    subst (λ (y : Point). T (X y)) (sym (assoc z a b)) (erode-out (minkowski A B) X z t (sum_in A B k m)))))
    (λ z t. erode_in (minkowski A B) X z (λ c m.
    let r = sum-out A B m in
    subst (λ (y : Point). T (X y)) (assoc z r.0 r.1 ∙ ap (λ (k : Point). z ⊞ k) (sym r.4))
    (erode-out B X (z ⊞ r.0) (erode-out A (erode B X) z t r.2) r.3)))

pub dilate-sum : (A B : List Point) (X : Point → Bool) → dilate (minkowski A B) X ≡ dilate B (dilate A X)
dilate-sum A B X =
    set_ext
    (dilate_sub (minkowski A B) X (dilate B (dilate A X)) (λ x c t m.
    let r = sum-out A B m in
    subst (λ (y : Point). T (dilate B (dilate A X) y)) (assoc x r.0 r.1 ∙ ap (λ (k : Point). x ⊞ k) (sym r.4))
    (dilate_in B (dilate A X) (x ⊞ r.0) r.1 (dilate_in A X x r.0 t r.2) r.3)))
    (dilate_sub B (dilate A X) (dilate (minkowski A B) X) (λ y b t m.
    let r = dilate-out A X y t in
    subst (λ (w : Point). T (dilate (minkowski A B) X w)) (sym (assoc r.0 r.1 b) ∙ ap (λ (k : Point). k ⊞ b) (sym r.4))
    (dilate_in (minkowski A B) X r.0 (r.1 ⊞ b) r.2 (sum_in A B r.3 m))))

-- ---- only the elements of a list matter
pub erode-same : {A B : List Point} (X : Point → Bool) → Same A B → erode A X ≡ erode B X
erode-same {A} {B} X s =
    set_ext (λ z t. erode_in B X z (λ b m. erode-out A X z t (s.fro m))) (λ z t. erode_in A X z (λ b m. erode-out B X z t (s.to m)))

pub dilate-same : {A B : List Point} (X : Point → Bool) → Same A B → dilate A X ≡ dilate B X
dilate-same {A} {B} X s =
    set_ext (dilate_sub A X (dilate B X) (λ x b t m. dilate_in B X x b t (s.to m))) (dilate_sub B X (dilate A X) (λ x b t m. dilate_in A X x b t (s.fro m)))

-- nB + mB = (n + m)B
times_in : (B : List Point) (n m : ℕ) {a b : Point} → Memᴰ a (times B n) → Memᴰ b (times B m) → Memᴰ (a ⊞ b) (times B (n + m))
unfolding times
times_in B n zero {a} {b} k l =
    rw add-zero (Memᴰ.cast (ap (λ (c : Point). a ⊞ c) (Memᴰ.eq_of_singleton l) ∙ unit a) k)
times_in B n (suc m) {a} {b} k l =
    let r = sum-out (times B m) B l in
    rw add-suc (Memᴰ.cast (ap (λ (c : Point). a ⊞ c) r.4 ∙ sym (assoc a r.0 r.1)) (sum_in (times B (n + m)) B (times_in B n m k r.2) r.3))

times-out : (B : List Point) (n m : ℕ) {c : Point} → Memᴰ c (times B (n + m))
    → (a b : Point) × Memᴰ a (times B n) × Memᴰ b (times B m) × (c ≡ a ⊞ b)
unfolding times
times-out B n zero {c} k = (c, origin, rw add-zero at k, Memᴰ.head refl, sym (unit c))
times-out B n (suc m) {c} k =
    let r = sum-out (times B (n + m)) B (rw add-suc at k) in
    let q = times-out B n m r.2 in
    (q.0, q.1 ⊞ r.1, q.2, sum_in (times B m) B q.3 r.3, r.4 ∙ ap (λ (c : Point). c ⊞ r.1) q.4 ∙ assoc q.0 q.1 r.1)

pub times-suc : (B : List Point) (n : ℕ) {a b : Point} → Memᴰ a (times B n) → Memᴰ b B → Memᴰ (a ⊞ b) (times B (suc n))
unfolding times
times-suc B n k m = sum_in (times B n) B k m

pub times_add : (B : List Point) (n m : ℕ) → Same (minkowski (times B n) (times B m)) (times B (n + m))
times_add B n m = record {
  to = λ k. let r = sum-out (times B n) (times B m) k in Memᴰ.cast r.4 (times_in B n m r.2 r.3);
  fro = λ k. let r = times-out B n m k in Memᴰ.cast r.4 (sum_in (times B n) (times B m) r.2 r.3);
}

pub erode-times : (B : List Point) (n m : ℕ) (X : Point → Bool) → erode (times B (n + m)) X ≡ erode (times B n) (erode (times B m) X)
erode-times B n m X = sym (erode-same X (times_add B n m)) ∙ erode-sum (times B n) (times B m) X

pub dilate-times : (B : List Point) (n m : ℕ) (X : Point → Bool) → dilate (times B (n + m)) X ≡ dilate (times B m) (dilate (times B n) X)
dilate-times B n m X = sym (dilate-same X (times_add B n m)) ∙ dilate-sum (times B n) (times B m) X

-- ---- openings by nB
-- what is opened by kB has the X(n) of X, for n from k on
pub eroded_open : (B : List Point) (k n : ℕ) (X : Point → Bool) → k ≤ n → erode (times B n) (opening (times B k) X) ≡ erode (times B n) X
eroded_open B k n X h =
    let e : n ≡ (n - k) + k = omega arith in
    ap (λ (i : ℕ). erode (times B i) (opening (times B k) X)) e
    ∙ erode-times B (n - k) k (opening (times B k) X)
    ∙ ap (erode (times B (n - k))) (erode_open (times B k) X)
    ∙ sym (erode-times B (n - k) k X)
    ∙ ap (λ (i : ℕ). erode (times B i) X) (sym e)

pub open_above : (B : List Point) (k m : ℕ) (X : Point → Bool) → k ≤ m → opening (times B m) (opening (times B k) X) ≡ opening (times B m) X
unfolding opening
open_above B k m X h = ap (dilate (times B m)) (eroded_open B k m X h)

pub open-below : (B : List Point) (k m : ℕ) (X : Point → Bool) → m ≤ k → opening (times B m) (opening (times B k) X) ≡ opening (times B k) X
unfolding opening
open-below B k m X h =
    let e : k ≡ (k - m) + m = omega arith in
    let Y = erode (times B k) X in
    let p : dilate (times B k) Y ≡ dilate (times B m) (dilate (times B (k - m)) Y) = ap (λ (i : ℕ). dilate (times B i) Y) e ∙ dilate-times B (k - m) m Y in
    ap (opening (times B m)) p ∙ open-dilate (times B m) (dilate (times B (k - m)) Y) ∙ sym p

-- ---- sizes
sum_comm : (A B : List Point) → Same (minkowski A B) (minkowski B A)
sum_comm A B = record {
  to = λ k. let r = sum-out A B k in Memᴰ.cast (r.4 ∙ comm r.0 r.1) (sum_in B A r.3 r.2);
  fro = λ k. let r = sum-out B A k in Memᴰ.cast (r.4 ∙ comm r.0 r.1) (sum_in A B r.3 r.2);
}

pub erode_comm : (A B : List Point) (X : Point → Bool) → erode A (erode B X) ≡ erode B (erode A X)
erode_comm A B X = sym (erode-sum A B X) ∙ erode-same X (sum_comm A B) ∙ erode-sum B A X

-- X(n + 1) is X(n) eroded by B
pub eroded-suc : (B : List Point) (n : ℕ) (X : Point → Bool) → erode (times B (suc n)) X ≡ erode B (erode (times B n) X)
unfolding times
eroded-suc B n X = erode-sum (times B n) B X ∙ erode_comm (times B n) B X

pub eroded-zero : (B : List Point) (X : Point → Bool) → erode (times B 0) X ≡ X
unfolding times
eroded-zero B X = set_ext
    (λ z t. subst (λ (y : Point). T (X y)) (unit z) (erode-out (origin ∷ []) X z t (Memᴰ.head refl)))
    (λ z t. erode_in (origin ∷ []) X z (λ b m. subst (λ (y : Point). T (X y)) (sym (ap (λ (k : Point). z ⊞ k) (Memᴰ.eq_of_singleton m) ∙ unit z)) t))

pub dilate-zero : (B : List Point) (X : Point → Bool) → dilate (times B 0) X ≡ X
unfolding times
dilate-zero B X = set_ext
    (dilate_sub (origin ∷ []) X X (λ x b t m. subst (λ (y : Point). T (X y)) (sym (ap (λ (k : Point). x ⊞ k) (Memᴰ.eq_of_singleton m) ∙ unit x)) t))
    (λ z t. subst (λ (y : Point). T (dilate (origin ∷ []) X y)) (unit z) (dilate_in (origin ∷ []) X z origin t (Memᴰ.head refl)))

pub open-zero : (B : List Point) (X : Point → Bool) → opening (times B 0) X ≡ X
unfolding opening
open-zero B X = dilate-zero B (erode (times B 0) X) ∙ eroded-zero B X

pub open-max : (B : List Point) (m k : ℕ) (X : Point → Bool) → opening (times B m) (opening (times B k) X) ≡ opening (times B (max m k)) X
open-max B m k X = go (decide (leb m k))
  where
    go : T (leb m k) ⊎ T (not (leb m k)) → opening (times B m) (opening (times B k) X) ≡ opening (times B (max m k)) X
    go (inl t) = let h = leb→le m k t in let e : k ≡ max m k = omega arith in open-below B k m X h ∙ ap (λ (i : ℕ). opening (times B i) X) e
    go (inr t) = let h = nleb→lt m k t in let e : m ≡ max m k = omega arith in open_above B k m X (omega arith) ∙ ap (λ (i : ℕ). opening (times B i) X) e
