-- Runs over a list of pixels: points and masks matter on the frame alone.
use mathlib.Core.Bool.{Bool, cond, false, not, true}
use mathlib.Core.List.Memᴰ
use mathlib.Core.List.{List, Memᴰ, [], ◌∷◌}
use mathlib.Core.Path.{◌∙◌, ◌≡◌, ap, ap₂, refl, subst, sym}
use Prim.Native.Nat.{suc, ℕ}
use lib.Dec.{T, T_not}
use Rattle.coding.specs.Runs.{keep, runs, unmasked}
use Rattle.morphology.specs.Labels.{places}
use Rattle.morphology.specs.Point.{Point}

pub keep_out : (p : Point → Bool) (l : List Point) {z : Point} → Memᴰ z (keep p l) → Memᴰ z l × T (p z)
unfolding keep
keep_out p [] m = absurd (Memᴰ.not-nil m)
keep_out p (x ∷ l) {z} m = go (p x) refl (λ k. keep_out p l k) m
  where
    go : (b : Bool) → p x ≡ b → (Memᴰ z (keep p l) → Memᴰ z l × T (p z)) → Memᴰ z (cond b (x ∷ keep p l) (keep p l)) → Memᴰ z (x ∷ l) × T (p z)
    go true q rest (Memᴰ.head e) = (Memᴰ.head e, subst (λ (y : Point). T (p y)) (sym e) (subst T (sym q) tt))
    go true q rest (Memᴰ.tail k) = let r = rest k in (Memᴰ.tail r.0, r.1)
    go false q rest k = let r = rest k in (Memᴰ.tail r.0, r.1)

keep_agree : (p q : Point → Bool) (l : List Point) → ((z : Point) → Memᴰ z l → p z ≡ q z) → keep p l ≡ keep q l
unfolding keep
keep_agree p q [] f = refl
keep_agree p q (x ∷ l) f =
    ap₂ (λ (b : Bool) (r : List Point). cond b (x ∷ r) r) (f x (Memᴰ.head refl)) (keep_agree p q l (λ z m. f z (Memᴰ.tail m)))

pub runs_agree : (S U : Point → Bool) (k : ℕ) (l : List Point) → ((z : Point) → Memᴰ z l → S z ≡ U z) → runs S k l ≡ runs U k l
unfolding runs
runs_agree S U k [] f = refl
runs_agree S U k (z ∷ l) f =
    let g : (y : Point) → Memᴰ y l → S y ≡ U y = λ y m. f y (Memᴰ.tail m) in
    ap (λ (b : Bool). cond b (k ∷ runs S 0 l) (runs S (suc k) l)) (f z (Memᴰ.head refl))
    ∙ ap₂ (λ (a c : List ℕ). cond (U z) (k ∷ a) c) (runs_agree S U 0 l g) (runs_agree S U (suc k) l g)

-- points and masks matter on the frame alone
pub runs_on : (W H : ℕ) (S U M N : Point → Bool) (k : ℕ) → ((z : Point) → Memᴰ z (places W H) → M z ≡ N z)
    → ((z : Point) → Memᴰ z (places W H) → (T (N z) → ⊥) → S z ≡ U z) → runs S k (unmasked W H M) ≡ runs U k (unmasked W H N)
unfolding unmasked
runs_on W H S U M N k f g =
    ap (runs S k) (keep_agree (λ z. not (M z)) (λ z. not (N z)) (places W H) (λ z m. ap not (f z m)))
    ∙ runs_agree S U k (keep (λ z. not (N z)) (places W H)) (λ z m. let r = keep_out (λ z. not (N z)) (places W H) m in g z r.0 (T_not (N z) r.1))
