-- What tests say.
use mathlib.Core.Bool.{Bool, ◌&&◌, ◌||◌, false, not, true}
use mathlib.Core.List.Memᴰ
use mathlib.Core.List.{List, Memᴰ, [], ◌∷◌, map}
use mathlib.Core.Logic.{◌⊎◌, inl, inr}
use mathlib.Core.Path.{◌∙◌, ◌≡◌, ap, refl, subst, sym}
use Prim.Native.Nat.{◌<◌, suc, zero, ℕ}
use native.Mathlib.Nat.{le_of_suc-le-suc, not-suc-le-zero}
use lib.Arith.{lt_of_le-ne}
use lib.Dec.{T, T_not, eqb, eqb_refl, eqb→eq}
use Rattle.morphology.specs.Lists.{every_of, some_of}

-- equal tests
pub T_ext : {a b : Bool} → (T a → T b) → (T b → T a) → a ≡ b
T_ext {a = true} {b = true} f g = refl
T_ext {a = true} {b = false} f g = absurd (f tt)
T_ext {a = false} {b = true} f g = absurd (g tt)
T_ext {a = false} {b = false} f g = refl

pub and_in : (a b : Bool) → T a → T b → T (a && b)
and_in true b s t = t
and_in false b s t = s

pub and_l : (a b : Bool) → T (a && b) → T a
and_l true b t = tt
and_l false b t = t

pub and_r : (a b : Bool) → T (a && b) → T b
and_r true b t = t
and_r false b t = absurd t

pub or_l : (a b : Bool) → T a → T (a || b)
or_l true b t = tt
or_l false b t = absurd t

pub or_r : (a b : Bool) → T b → T (a || b)
or_r true b t = tt
or_r false b t = t

pub or-out : (a b : Bool) → T (a || b) → T a ⊎ T b
or-out true b t = inl tt
or-out false b t = inr t

-- an or that is false
pub neither : (a b : Bool) → (a || b) ≡ false → (a ≡ false) × (b ≡ false)
neither true b e = absurd (subst T e tt)
neither false b e = (refl, e)

pub not-and : (a b : Bool) → (not a || not b) ≡ not (a && b)
not-and true b = refl
not-and false b = refl

pub decide : (a : Bool) → T a ⊎ T (not a)
decide true = inl tt
decide false = inr tt

module _ {ℓ} {A : Type ℓ} where
  pub all-out : (p : A → Bool) {a : A} {l : List A} → T (every_of p l) → Memᴰ a l → T (p a)
  all-out p t (Memᴰ.head {x} {xs} e) = subst (λ (b : A). T (p b)) (sym e) (and_l (p x) (every_of p xs) t)
  all-out p t (Memᴰ.tail {x} {xs} m) = all-out p (and_r (p x) (every_of p xs) t) m

  pub all_in : (p : A → Bool) (l : List A) → ((a : A) → Memᴰ a l → T (p a)) → T (every_of p l)
  all_in p [] f = tt
  all_in p (x ∷ l) f = and_in (p x) (every_of p l) (f x (Memᴰ.head refl)) (all_in p l (λ a m. f a (Memᴰ.tail m)))

  pub any_in : (p : A → Bool) {a : A} {l : List A} → Memᴰ a l → T (p a) → T (some_of p l)
  any_in p (Memᴰ.head {x} {xs} e) t = or_l (p x) (some_of p xs) (subst (λ (b : A). T (p b)) e t)
  any_in p (Memᴰ.tail {x} {xs} m) t = or_r (p x) (some_of p xs) (any_in p m t)

  pub any_out : (p : A → Bool) (l : List A) → T (some_of p l) → (a : A) × Memᴰ a l × T (p a)
  any_out p [] t = absurd t
  any_out p (x ∷ l) t = go (any_out p l) (or-out (p x) (some_of p l) t)
    where
      go : (T (some_of p l) → (a : A) × Memᴰ a l × T (p a)) → T (p x) ⊎ T (some_of p l) → (a : A) × Memᴰ a (x ∷ l) × T (p a)
      go rest (inl s) = (x, Memᴰ.head refl, s)
      go rest (inr s) = let r = rest s in (r.0, Memᴰ.tail r.1, r.2)

-- some member fails where not every one passes
pub some-not : {A : Type 0} (p : A → Bool) (l : List A) → some_of (λ a. not (p a)) l ≡ not (every_of p l)
some-not p [] = refl
some-not p (a ∷ l) = ap (λ (t : Bool). not (p a) || t) (some-not p l) ∙ not-and (p a) (every_of p l)

pub mem-map : {A B : Type 0} (f : A → B) {a : A} {l : List A} → Memᴰ a l → Memᴰ (f a) (map f l)
mem-map f (Memᴰ.head e) = Memᴰ.head (ap f e)
mem-map f (Memᴰ.tail m) = Memᴰ.tail (mem-map f m)

pub map_mem : {A B : Type 0} (f : A → B) (l : List A) {b : B} → Memᴰ b (map f l) → (a : A) × Memᴰ a l × (b ≡ f a)
map_mem f [] m = absurd (Memᴰ.not-nil m)
map_mem f (x ∷ l) (Memᴰ.head e) = (x, Memᴰ.head refl, e)
map_mem f (x ∷ l) (Memᴰ.tail m) = let r = map_mem f l m in (r.0, Memᴰ.tail r.1, r.2)

-- tests over all numbers below n
abbrev pub upto : (ℕ → Bool) → ℕ → Bool
upto p zero = true
upto p (suc n) = p n && upto p n

pub upto-out : (p : ℕ → Bool) (N n : ℕ) → n < N → T (upto p N) → T (p n)
upto-out p zero n h t = absurd (not-suc-le-zero h)
upto-out p (suc N) n h t = go (upto-out p N n) (decide (eqb n N))
  where
    go : (n < N → T (upto p N) → T (p n)) → T (eqb n N) ⊎ T (not (eqb n N)) → T (p n)
    go rest (inl e) = subst (λ (i : ℕ). T (p i)) (sym (eqb→eq n N e)) (and_l (p N) (upto p N) t)
    go rest (inr e) = rest (lt_of_le-ne (le_of_suc-le-suc h) (λ q. T_not (eqb n N) e (subst (λ (i : ℕ). T (eqb n i)) q (eqb_refl n)))) (and_r (p N) (upto p N) t)
